use Rattle.std.proofs.Common.{◌≡◌, ℕ, ◌<◌, sym, ◌∙◌, ap, subst, arith, rules, List, Option, length, get_or}
use Rattle.std.specs.Prelude.{Err, Result}
use Rattle.step_machine.specs.declared.machine.StepOk.{StepOk}
use Rattle.step_debugger.specs.declared.fault.DebugFault.{DebugFault}
use Rattle.step_debugger.specs.Touches.{IfRefused, IsRefusedWithin}
use Rattle.step_debugger.specs.Debugging.{Debugging}
use Rattle.step_debugger.proofs.Grouping.{group_begun_at, is_last_is, is_not_last, last_err, last_ok, list_unfound, may_begin_is, may_not_begin, no_leader}
use Rattle.step_debugger.proofs.TouchedOn.{begun_within, judged_within, made_within, refused_within, untouched_at}
use Rattle.step_debugger.proofs.debugger.Debugger.group.Goals as goal

pub returns-in_default-place_of-clause-session : goal.returns-in_default-place_of-clause-session
returns-in_default-place_of-clause-session g c =
    let keeps = sym c.judge.ensures.value ∙ c.in_default.is in
    no_leader c.args.self.now.commands c.args.self.now.session c.args.leader c.in_ok-ready.ensures.some keeps
    (may_not_begin c.args.self.now.commands c.args.self.now.session c.leaders_left-left.result.items c.leaders_left-left.ensures.leaders c.leaders_left-left.ensures.differ c.args.leader (list_unfound c.as_slice.result.now c.leaders_left-left.result.items c.args.leader c.place_of.result c.as_slice.ensures.value c.in_default-place_of.is c.place_of.ensures.none))

pub returns-then-as_slice-gt1-clause-session : goal.returns-then-as_slice-gt1-clause-session
returns-then-as_slice-gt1-clause-session g c =
    let keeps = sym c.judge.ensures.value ∙ c.in_default.is in
    let found = subst (λ (xs : List ℕ). (c.in-Some-place_of.place < length xs) × (get_or xs c.in-Some-place_of.place 0 ≡ c.args.leader)) c.as_slice.ensures.value c.in-Some-place_of.ensures.found in
    let may = may_begin_is c.args.self.now.commands c.args.self.now.session c.leaders_left-left.result.items c.leaders_left-left.ensures.leaders c.leaders_left-left.ensures.differ c.args.leader c.in-Some-place_of.place found.0 found.1 in
    let same = ap length c.as_slice-2.ensures.value in
    let more = is_not_last c.args.self.now.commands c.args.self.now.session c.leaders_left-left.result.items c.leaders_left-left.ensures.leaders c.leaders_left-left.ensures.differ (let many = c.if-as_slice-gt1.true in omega (arith, same, many)) in
    group_begun_at c.args.self.now.commands c.args.self.now.session c.args.leader c.in_ok-ready.ensures.some keeps
    c.begin.new.self.session (ap (λ (d : Debugging). d.session) c.begin.ensures) may more

pub returns-in-Ok-clause-session : goal.returns-in-Ok-clause-session
returns-in-Ok-clause-session g c =
    let keeps = sym c.judge.ensures.value ∙ c.in_default.is in
    let found = subst (λ (xs : List ℕ). (c.in-Some-place_of.place < length xs) × (get_or xs c.in-Some-place_of.place 0 ≡ c.args.leader)) c.as_slice.ensures.value c.in-Some-place_of.ensures.found in
    let may = may_begin_is c.args.self.now.commands c.args.self.now.session c.leaders_left-left.result.items c.leaders_left-left.ensures.leaders c.leaders_left-left.ensures.differ c.args.leader c.in-Some-place_of.place found.0 found.1 in
    let same = ap length c.as_slice-2.ensures.value in
    let last = is_last_is c.args.self.now.commands c.args.self.now.session c.leaders_left-left.result.items c.leaders_left-left.ensures.leaders c.leaders_left-left.ensures.differ (let some = found.0 in let few = c.if-as_slice-gt1.false in omega (arith, same, some, few)) in
    last_ok c.args.self.now.commands c.args.self.now.session c.args.leader c.in_ok-ready.ensures.some keeps
    c.make.new.self.session c.in-Ok.ok c.in-Ok.ensures.session may last

pub returns-in-Err-clause-session : goal.returns-in-Err-clause-session
returns-in-Err-clause-session g c =
    let keeps = sym c.judge.ensures.value ∙ c.in_default.is in
    let found = subst (λ (xs : List ℕ). (c.in-Some-place_of.place < length xs) × (get_or xs c.in-Some-place_of.place 0 ≡ c.args.leader)) c.as_slice.ensures.value c.in-Some-place_of.ensures.found in
    let may = may_begin_is c.args.self.now.commands c.args.self.now.session c.leaders_left-left.result.items c.leaders_left-left.ensures.leaders c.leaders_left-left.ensures.differ c.args.leader c.in-Some-place_of.place found.0 found.1 in
    let same = ap length c.as_slice-2.ensures.value in
    let last = is_last_is c.args.self.now.commands c.args.self.now.session c.leaders_left-left.result.items c.leaders_left-left.ensures.leaders c.leaders_left-left.ensures.differ (let some = found.0 in let few = c.if-as_slice-gt1.false in omega (arith, same, some, few)) in
    last_err c.args.self.now.commands c.args.self.now.session c.args.leader c.in_ok-ready.ensures.some keeps
    c.make.new.self.session c.in-Err.fault c.in-Err.ensures.session may last

pub returns-then-as_slice-gt1-clause-touches : goal.returns-then-as_slice-gt1-clause-touches
returns-then-as_slice-gt1-clause-touches g c =
    let keeps = sym c.judge.ensures.value ∙ c.in_default.is in
    begun_within c.args.self.now.commands c.args.self.now.session.point keeps c.args.steps.now c.judge.new.steps c.judge.ensures.touches

pub returns-in-Ok-clause-touches : goal.returns-in-Ok-clause-touches
returns-in-Ok-clause-touches g c =
    let keeps = sym c.judge.ensures.value ∙ c.in_default.is in
    made_within c.args.self.now.commands c.args.self.now.session.point keeps c.args.steps.now c.judge.new.steps c.judge.ensures.touches c.make.new.steps c.in-Ok.ensures.touches

pub returns-in_err-ready-clause-touches_refused : goal.returns-in_err-ready-clause-touches_refused
returns-in_err-ready-clause-touches_refused g c =
    let point = c.args.self.now.session.point in
    let is : c.from_residual.result ≡ Err c.in_err-ready.field-0.0 = search rules in
    subst (λ (r : Result (Option StepOk) DebugFault). IfRefused r (λ b. IsRefusedWithin 102 c.args.self.now.commands point b c.args.steps.now c.args.steps.now)) (sym is) (untouched_at (Option StepOk) 102 c.args.self.now.commands point c.in_err-ready.field-0.0 c.args.steps.now)

pub returns-in-Some-clause-touches_refused : goal.returns-in-Some-clause-touches_refused
returns-in-Some-clause-touches_refused g c =
    judged_within c.args.self.now.commands c.args.self.now.session.point c.in-Some.broken c.args.steps.now c.judge.new.steps (sym c.judge.ensures.value ∙ c.in-Some.is) c.in_ok-ready.ensures.all c.judge.ensures.touches

pub returns-in-Err-clause-touches_refused : goal.returns-in-Err-clause-touches_refused
returns-in-Err-clause-touches_refused g c =
    let keeps = sym c.judge.ensures.value ∙ c.in_default.is in
    refused_within c.args.self.now.commands c.args.self.now.session.point keeps c.args.steps.now c.judge.new.steps c.judge.ensures.touches StepOk c.in-Err.fault c.make.new.steps c.in-Err.ensures.touches_refused
