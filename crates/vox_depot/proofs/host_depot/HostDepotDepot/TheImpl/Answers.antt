-- No files are visible, so the trait's contract on them holds of any answer.
use Rattle.std.proofs.Common.{refl, rules}
use Rattle.vox_depot.proofs.Results.{if_ok, on_err}
use Rattle.vox_depot.proofs.host_depot.HostDepotDepot.TheImpl.Goals as goal

pub fetch-tells : goal.fetch-tells
fetch-tells g c = record {
  bound = search rules;
  piece = if_ok c.result _ (λ n. tt);
  missing = search rules;
  failed = search rules;
  files = refl;
  later = search rules;
  stores = search rules;
}

pub store-tells : goal.store-tells
store-tells g c = record {
  stored = if_ok c.result _ (λ n. refl);
  others = on_err c.result refl;
  failed = search rules;
  lost = search rules;
  later = search rules;
  stores = search rules;
}
