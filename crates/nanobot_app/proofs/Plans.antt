-- A plan that was stored is accepted by `run`.
use Rattle.std.specs.FinMap as finite
use Rattle.std.proofs.Common.{◌≡◌, ℕ, ◌+◌, ◌≤◌, List, Bool, true, false, cond, refl, sym, ap, ◌∙◌, subst, arith, nat_lt, length}
use Rattle.std.specs.Prelude.{ℤ, Option, Some, None, Ok, Err, IsSomeAnd, MatchBool, MatchResult, ⊤}
use Rattle.std.specs.FinMap.{get-insert}
use Rattle.std.specs.Str.{bytes_eq}
use Rattle.std.proofs.lemmas.Cmp.{nat_list_cmp_total}
use Rattle.std.proofs.lemmas.Map.Text.{is_eq-slice_cmp}
use Rattle.std.proofs.lemmas.Slice.Eq.{bytes_eq-Decides}
use Rattle.vox_geom.proofs.Tests.{not_less_by_test}
use Rattle.nano_spec.specs.declared.commands.Command.{Command}
use Rattle.nano_spec.specs.declared.system.Profile.{Profile}
use Rattle.nano_spec.specs.declared.outcomes.Verdict.TheVariants.{Accepted}
use Rattle.nano_spec.specs.Cutting.{AreCommands}
use Rattle.nano_spec.specs.Legal.{IsLegal}
use Rattle.nano_spec.specs.Matrix.{Matrix, full_count}
use Rattle.nano_spec.specs.Model.{model, volume}
use Rattle.nano_spec.specs.Profile.{full_profile, light_profile}
use Rattle.nano_spec.specs.Spelling.{spellings}
use Rattle.nano_spec.specs.Verdict.{VerdictOf}
use Rattle.group_planner.specs.Bounds.{most_bytes}
use Rattle.group_planner.specs.Rows.{rows, runs}
use Rattle.vox_depot.specs.Files.{Files, content}
use Rattle.nanobot_rows.specs.declared.report.Report.TheVariants as report
use Rattle.nanobot_rows.specs.declared.status.Status.TheVariants as is
use Rattle.plan_choice.specs.Planners.{byte_limit}
use Rattle.nanobot_rows.specs.Answer.{AnswerOf, AnswerOfRun, CanPlan, Found, IsReply, Reply, Stores, StoresPlan, facts_of, profile_of, Upon}
use Rattle.nanobot_app.specs.Plans.{IsRunOfPlan, PlansAsLight}
use Rattle.nanobot_rows.specs.Lines.{group_long_line, planned_line}
use Rattle.nanobot_rows.specs.Models.{AreModels, IsModelOf, IsSide}
use Rattle.nanobot_rows.specs.Reading.{reply_of}
use Rattle.nanobot_words.specs.declared.planner.Planner.{Planner}
use Rattle.nanobot_words.specs.declared.planner.Planner.TheVariants.{Layer, Group, Crew, Void, Low, Swarm}
use Rattle.nanobot_words.specs.declared.row.Round.{Round}
use Rattle.nanobot_words.specs.Rows.{HasName, plan}
use Rattle.low_planner.proofs.Builds.{full_most}
use Rattle.plan_choice.proofs.Lengths.{few_commands, four_each, layer_fits, low_fits, swarm_fits, two_each, void_fits, volume_most}
use Rattle.nanobot_app.proofs.Finding.{finds_trace}
use Rattle.nanobot_app.proofs.Found.{SayOne, done_says, models_once, plan_once}
use Rattle.nanobot_app.proofs.Headlines.{done_models}
use Rattle.nanobot_rows.proofs.Replies.{finds_models}

-- ---- the files after one was stored

module _ (files : Files) (name bytes : List ℕ) where
  tied : (other : List ℕ) (b : Bool) → bytes_eq other name ≡ b
      → content (finite.insert files name bytes) other ≡ cond b (Some bytes) (content files other)
  tied other b e = get-insert nat_list_cmp_total files name bytes other ∙ ap (λ t. cond t (Some bytes) (content files other)) (is_eq-slice_cmp other name ∙ e)

  own_content : content (finite.insert files name bytes) name ≡ Some bytes
  own_content = tied name true ((bytes_eq-Decides name name).1 refl)

  same_content : (other : List ℕ) → (other ≡ name → ⊥)
      → content (finite.insert files name bytes) other ≡ content files other
  same_content other differ = by (bytes_eq other name) refl
    where
      by : (b : Bool) → bytes_eq other name ≡ b → content (finite.insert files name bytes) other ≡ content files other
      by true e = absurd (differ ((bytes_eq-Decides other name).0 e))
      by false e = tied other false e

  -- the content of another file is unchanged
  side_stays : (side : Option (List ℕ)) (m other : Matrix) → (side ≡ Some name → ⊥) → IsSide files side m other
      → IsSide (finite.insert files name bytes) side m other
  side_stays None m other differ h = h
  side_stays (Some file) m other differ h = subst (λ (o : Option (List ℕ)). IsSomeAnd o (λ bytes. (model bytes ≡ Ok m) × IsLegal m)) (sym (same_content file (λ e. differ (ap Some e)))) h

  models_stay : (source target : Option (List ℕ)) (s t : Matrix) → (source ≡ Some name → ⊥) → (target ≡ Some name → ⊥)
      → AreModels source target files s t → AreModels source target (finite.insert files name bytes) s t
  models_stay source target s t first second m = record {
    source_is = side_stays source s t first m.source_is;
    target_is = side_stays target t s second m.target_is;
    alike = m.alike;
  }

-- ---- the length of a plan

abbrev pub MostLaw : Type 0
MostLaw = (bytes : List ℕ) (m : Matrix) → model bytes ≡ Ok m → m.resolution ≤ 400

-- a run accepts a file that has the spellings of accepted commands
runs_through : (profile : Profile) (files : Files) (source target : Option (List ℕ)) (trace : List ℕ) (s t : Matrix)
    (commands : List Command) (energy : ℤ) (steps : ℕ) → HasName source target → AreModels source target files s t
    → content files trace ≡ Some (spellings commands) → AreCommands commands
    → VerdictOf s t commands profile (Accepted energy steps) → length (spellings commands) ≤ byte_limit
    → AnswerOfRun profile source target trace files (reply_of files (report.Accepted energy steps))
runs_through profile files source target trace s t commands energy steps named models there are accepted size = (
  Ok (s, t),
  finds_models files source target s t named models,
  (Ok commands, finds_trace byte_limit files trace commands (spellings commands, there, size, (are, refl)), (Accepted energy steps, accepted, refl)),
)

module _ (law : MostLaw) where
  most_of : (files : Files) (name : List ℕ) (m : Matrix) → IsModelOf files name m → m.resolution ≤ 400
  most_of files name m h = by (content files name) h
    where
      by : (o : Option (List ℕ)) → IsSomeAnd o (λ bytes. (model bytes ≡ Ok m) × IsLegal m) → m.resolution ≤ 400
      by None h = absurd h
      by (Some bytes) h = law bytes m h.0

  most_of_models : (files : Files) (source target : Option (List ℕ)) (s t : Matrix) → HasName source target
      → AreModels source target files s t → s.resolution ≤ 400
  most_of_models files (Some name) target s t named m = most_of files name s m.source_is
  most_of_models files None (Some name) s t named m = subst (λ (r : ℕ). r ≤ 400) (sym m.alike) (most_of files name t m.target_is)
  most_of_models files None None s t named m = absurd named

-- ---- each planner's plans

-- the planner makes a plan of these models, whatever files there are
abbrev MakesPlan : Planner → Matrix → Matrix → Type 0
MakesPlan planner source target = (files : Files) × CanPlan planner source target files (Ok tt)

-- a group plan that is made is not too long
few_bytes : (s t : Matrix) → MakesPlan Group s t → most_bytes s t ≤ byte_limit
few_bytes s t made = by (nat_lt byte_limit (most_bytes s t)) refl made.1
  where
    by : (long : Bool) → nat_lt byte_limit (most_bytes s t) ≡ long → MatchBool long
        (◌≡◌ {A = Found ⊤} (Ok tt) (Err (is.Model, group_long_line (runs s + runs t) (rows s + rows t))))
        (◌≡◌ {A = Found ⊤} (Ok tt) (Ok tt)) → most_bytes s t ≤ byte_limit
    by true test e = absurd (cc)
    by false test e = not_less_by_test byte_limit (most_bytes s t) test

module _ (s t : Matrix) (commands : List Command) (energy : ℤ) (steps : ℕ) where
  are_commands : (planner : Planner) → facts_of planner s t commands energy steps → AreCommands commands
  are_commands Layer h = h.plan.are_commands
  are_commands Group h = h.plan.are_commands
  are_commands Crew h = h.plan.are_commands
  are_commands Void h = h.plan.are_commands
  are_commands Low h = h.plan.are_commands
  are_commands Swarm h = h.plan.are_commands

  pub in_full : (planner : Planner) → facts_of planner s t commands energy steps
      → VerdictOf s t commands full_profile (Accepted energy steps)
  in_full Layer h = h.plan.accepted
  in_full Group h = h.plan.accepted
  in_full Crew h = h.plan.accepted
  in_full Void h = h.plan.accepted
  in_full Low h = h.plan.accepted
  in_full Swarm h = h.plan.accepted

  pub as_light : (planner : Planner) → PlansAsLight planner → facts_of planner s t commands energy steps
      → VerdictOf s t commands light_profile (Accepted energy steps)
  as_light Low light h = h.accepted_as_light
  as_light Swarm light h = h.accepted_as_light
  as_light Layer light h = absurd light
  as_light Group light h = absurd light
  as_light Crew light h = absurd light
  as_light Void light h = absurd light

  -- no plan is longer than a trace that is run
  fits : (planner : Planner) → s.resolution ≤ 400 → t.resolution ≤ 400 → MakesPlan planner s t
      → facts_of planner s t commands energy steps → length (spellings commands) ≤ byte_limit
  fits Layer most most' made h = layer_fits s.resolution (length (spellings commands)) most h.bytes
  fits Group most most' made h = let few = h.few_bytes in let short = few_bytes s t made in omega (arith, few, short)
  fits Crew most most' made h = h.few_bytes
  fits Void most most' made h = void_fits s.resolution steps (length commands) (length (spellings commands)) most h.few_steps (few_commands s t full_profile commands 4 h.plan.few_bots energy steps h.plan.accepted) (four_each commands)
  fits Low most most' made h = low_fits (volume t.resolution) (full_count t) steps (length commands) (length (spellings commands)) (volume_most t.resolution most') (full_most t) h.few_steps (few_commands s t light_profile commands 1 h.plan.few_bots energy steps h.accepted_as_light) (two_each commands h.plain)
  fits Swarm most most' made h = swarm_fits t.resolution steps (length commands) (length (spellings commands)) most' h.few_steps (few_commands s t light_profile commands 20 h.plan.few_bots energy steps h.accepted_as_light) (four_each commands)

-- ---- the run

-- the file of a plan that is not too long is taken by a run
module _ (round : Round) (source target : Option (List ℕ)) (trace : List ℕ) (files : Files) (first : source ≡ Some trace → ⊥) (second : target ≡ Some trace → ⊥) where
  run_of_stored : (s t : Matrix) (commands : List Command) (energy : ℤ) (steps : ℕ) (reply : Reply)
      → HasName source target → AreModels source target files s t → AreCommands commands
      → VerdictOf s t commands (profile_of round) (Accepted energy steps) → length (spellings commands) ≤ byte_limit
      → Stores (planned_line energy steps (length commands) (length (spellings commands))) trace (spellings commands)
      files reply → IsRunOfPlan round source target trace reply
  run_of_stored s t commands energy steps reply named models are accepted size e =
      subst (λ (r : Reply). IsRunOfPlan round source target trace r) (sym e) (record {
        energy = energy;
        steps = steps;
        commands = length commands;
        bytes = length (spellings commands);
        told = refl;
        accepted = runs_through (profile_of round) (finite.insert files trace (spellings commands)) source target trace s t commands energy steps named
            (models_stay files trace (spellings commands) source target s t first second models) (own_content files trace (spellings commands)) are accepted size;
      })

-- a run in a round in which the planner's plans are accepted accepts the file of a plan
pub run_of_plan : MostLaw → (round : Round) (planner : Planner)
    → ((s t : Matrix) (commands : List Command) (energy : ℤ) (steps : ℕ) → facts_of planner s t commands energy steps
    → VerdictOf s t commands (profile_of round) (Accepted energy steps)) → (source target : Option (List ℕ))
    (trace : List ℕ) (files : Files) (reply : Reply) → (source ≡ Some trace → ⊥) → (target ≡ Some trace → ⊥)
    → AnswerOf (plan planner source target trace) files reply → reply.status ≡ is.Done
    → IsRunOfPlan round source target trace reply
run_of_plan law round planner accepts source target trace files reply first second answer done =
    let found = done_models files source target (λ models. Upon (CanPlan planner models.0 models.1) (λ _. StoresPlan (facts_of planner) trace models.0 models.1)) reply done answer in
    let s = found.0 in
    let t = found.1 in
    let models = found.2 in
    let named = found.3 in
    let made = done_says (CanPlan planner s t) (λ _. StoresPlan (facts_of planner) trace s t) files reply (plan_once planner s t).fine done found.4 in
    let commands = made.2.0 in
    let energy = made.2.1 in
    let steps = made.2.2 in
    let facts = made.2.3 in
    let most = most_of_models law files source target s t named models in
    let size = fits s t commands energy steps planner most (subst (λ (r : ℕ). r ≤ 400) models.alike most) (files, made.1) facts in
    run_of_stored round source target trace files first second s t commands energy steps reply named models (are_commands s t commands energy steps planner facts) (accepts s t commands energy steps facts) size made.2.4

-- ---- each plan between such models is made

pub plan_is_done : (laws : SayOne) (planner : Planner) (source target : Option (List ℕ)) (trace : List ℕ)
    (files : Files) (from to : Matrix) (reply : Reply) → HasName source target
    → AreModels source target files from to → CanPlan planner from to files (Ok tt)
    → AnswerOf (plan planner source target trace) files reply → reply.status ≡ is.Done
plan_is_done laws planner source target trace files from to reply named are can h =
    let models = (models_once ⊥ source target (λ never. absurd never)).one laws files h.0 (Ok (from, to)) h.1 (finds_models files source target from to named are) in
    let planned = subst (λ (x : Found (Matrix × Matrix)). MatchResult x (λ m. Upon (CanPlan planner m.0 m.1) (λ _. StoresPlan (facts_of planner) trace m.0 m.1) files reply) (λ end. IsReply end.0 end.1 files reply)) models h.2 in
    let made = (plan_once planner from to).one laws files planned.0 (Ok tt) planned.1 can in
    let stored = subst (λ (x : Found ⊤). MatchResult x (λ _. StoresPlan (facts_of planner) trace from to files reply) (λ end. IsReply end.0 end.1 files reply)) made planned.2 in
    ap (λ (r : Reply). r.status) stored.4
