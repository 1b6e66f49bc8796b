use Rattle.std.proofs.Common.{subst}
use Rattle.nanobot_rows.specs.declared.status.Status.{Status}
use Rattle.nanobot_c.specs.Calls.{IsRefused}
use Rattle.nanobot_c.proofs.Costs.{cost_of, refused_gone, refused_report}
use Rattle.nanobot_c.proofs.judging.cost.Goals as goal

pub returns-in-Ok : goal.returns-in-Ok
returns-in-Ok c = cost_of _ _ c.in-Ok.effect _ c.requires.stores_none c.in-Ok.ensures.finishes c.in-Ok.ensures.named c.told_cost.ensures.accepted c.told_cost.ensures.refused

pub returns-in-Err-Told : goal.returns-in-Err-Told
returns-in-Err-Told c =
    let is = subst (λ (s : Status). IsRefused s c.refuse.result) c.status.ensures c.refuse.ensures in
    refused_report _ _ c.in-Err-Told.report _ (rw c.in-Err-Told.field-0-is at c.in-Err-Told.ensures.finishes) is

pub returns-in-Err-Depot : goal.returns-in-Err-Depot
returns-in-Err-Depot c = refused_gone _ _ _ (rw c.in-Err-Depot.field-0-is at c.in-Err-Depot.ensures.finishes) c.code.ensures
