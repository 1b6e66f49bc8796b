use Rattle.std.proofs.Common.{rules, ◌≡◌, ◌++◌}
use Rattle.std.specs.Fmt.{signed_decimal}
use Rattle.trace_text.proofs.Joined.{difference_joined, on_ok}
use Rattle.trace_text.proofs.print.print_difference.Goals as goal

pub returns : goal.returns
returns c =
    let text_is_x : c.print_signed.new.text.items ≡ c.put.new.text.items ++ signed_decimal c.args.difference.dx = search rules in
    let text_is_y : c.print_signed-2.new.text.items ≡ c.put-2.new.text.items ++ signed_decimal c.args.difference.dy = search rules in
    let text_is_z : c.print_signed-3.new.text.items ≡ c.put-3.new.text.items ++ signed_decimal c.args.difference.dz = search rules in
    on_ok c.put-4.result
    (difference_joined c.args.text.now.items c.put.new.text.items c.print_signed.new.text.items c.put-2.new.text.items c.print_signed-2.new.text.items c.put-3.new.text.items c.print_signed-3.new.text.items c.put-4.new.text.items
    (signed_decimal c.args.difference.dx) (signed_decimal c.args.difference.dy) (signed_decimal c.args.difference.dz)
    c.in_ok-put.ensures text_is_x c.in_ok-put-2.ensures text_is_y c.in_ok-put-3.ensures text_is_z)
    c.put-4.ensures
