use Rattle.std.proofs.Common.{sym, ◌∙◌, ap, subst, [], ◌∷◌, ◌++◌, take, drop}
use Rattle.std.specs.Prelude.{All}
use Rattle.std.specs.List.{remove}
use Rattle.vox_geom.specs.Space.{IsInSpace}
use Rattle.nano_spec.specs.State.{State}
use Rattle.system_state.specs.Turns.{FollowsOn, bots_after_some}
use Rattle.step_debugger.proofs.Grouping.{follows_on, kept_begun}
use Rattle.step_debugger.proofs.debugger.Debugger.begin.Goals as goal

pub move_group-requires-clause-next : goal.move_group-requires-clause-next
move_group-requires-clause-next c =
    let next = c.next_commands-next.ensures ∙ ((λ i. take (c.active-count.ensures i) (drop c.self.inside.taken (c.as_slice.ensures i)))) in
    let follows = subst (λ (s : State). FollowsOn s c.next_commands-next.result.now c.self.inside.begun.items c.args.leader (remove c.args.left.items c.args.place) c.self.inside.middle) (sym c.system-system.ensures)
    (follows_on c.self.inside.machine c.self.inside.history c.self.inside.commands c.self.inside.taken c.self.inside.begun.items c.self.inside.left.items c.self.inside.middle c.args.self.now c.self.view_is c.self.invariant c.requires.stands
    c.args.left.items c.args.place c.args.leader c.requires.keeps c.requires.leaders c.requires.place c.requires.leader c.groups_take_turns.ensures.first c.recall.ensures.ready c.next_commands-next.result.now next) in
    (c.self.inside.begun.items, remove c.args.left.items c.args.place, follows)

pub invariant_of-self : goal.invariant_of-self
invariant_of-self c =
    let next = c.next_commands-next.ensures ∙ ((λ i. take (c.active-count.ensures i) (drop c.self.inside.taken (c.as_slice.ensures i)))) in
    let follows = subst (λ (s : State). FollowsOn s c.next_commands-next.result.now c.self.inside.begun.items c.args.leader (remove c.args.left.items c.args.place) c.self.inside.middle) (sym c.system-system.ensures)
    (follows_on c.self.inside.machine c.self.inside.history c.self.inside.commands c.self.inside.taken c.self.inside.begun.items c.self.inside.left.items c.self.inside.middle c.args.self.now c.self.view_is c.self.invariant c.requires.stands
    c.args.left.items c.args.place c.args.leader c.requires.keeps c.requires.leaders c.requires.place c.requires.leader c.groups_take_turns.ensures.first c.recall.ensures.ready c.next_commands-next.result.now next) in
    kept_begun c.self.inside.machine c.self.inside.history c.self.inside.commands c.self.inside.taken c.self.inside.begun.items c.self.inside.left.items c.self.inside.middle c.args.self.now c.self.view_is c.self.invariant c.requires.stands
    c.args.left.items c.args.place c.args.leader c.requires.keeps c.requires.leaders c.requires.place c.requires.leader
    c.remove.new.self.items c.push.new.self.items c.move_group.new.crew c.next_commands-next.result.now next c.remove.ensures.items c.push.ensures.items
    (c.move_group.ensures.bots c.self.inside.begun.items (remove c.args.left.items c.args.place) follows ∙ ap (λ (s : State). bots_after_some s c.next_commands-next.result.now (c.self.inside.begun.items ++ c.args.leader ∷ [])) c.system-system.ensures)
    (subst (λ (s : State). All (λ b. IsInSpace s.matrix.resolution b.pos) c.move_group.new.crew) c.system-system.ensures c.move_group.ensures.within)
