-- Counts of faults, and when they rise.
use Rattle.std.specs.Coded.{Coded, code_by, coded×, coded_ℕ}
use Rattle.vox_depot.specs.declared.depot.FetchFault.{FetchFault}
use Rattle.vox_depot.specs.declared.depot.FetchFault.TheVariants.{Missing, Failed}
use Rattle.std.specs.Prelude.{refl, Bool, true, false, Result, Ok, Err, ℕ, ◌+◌, ◌-◌, ◌^◌, ◌<◌, ◌≤◌, min}

-- the count is higher than before, or is at the end of its type
abbrev pub Rose : ℕ → ℕ → Type 0
Rose before now = min (before + 1) (2 ^ 64 - 1) ≤ now

-- the count after one more fault, which stays at the end of its type
abbrev pub next_count : ℕ → ℕ
next_count n = min (n + 1) (2 ^ 64 - 1)

-- the call of this number is one of the first 2^64 - 2, in which no count comes to the end of its type
abbrev pub IsEarly : ℕ → Type 0
IsEarly number = number < 2 ^ 64 - 2

-- whether the fetch failed
abbrev pub is_failed : Result ℕ FetchFault → Bool
is_failed (Ok n) = false
is_failed (Err Missing) = false
is_failed (Err Failed) = true

-- the number of failures of a depot, and of its failed stores
pub record DepotFaults : Type 0 where
  pub faults : ℕ
  pub failed_stores : ℕ

abbrev pub depot_faults_code : Coded DepotFaults
depot_faults_code =
    code_by (ℕ × ℕ) (coded× coded_ℕ coded_ℕ) (λ m. (m.faults, m.failed_stores))
    (λ p. record { faults = p.0; failed_stores = p.1 }) (λ _. refl)
