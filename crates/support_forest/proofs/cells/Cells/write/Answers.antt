use Rattle.support_forest.proofs.cells.Cells.write.Goals as goal

pub write_offset-requires : goal.write_offset-requires
write_offset-requires g c = (c.args.at, record { within = c.requires.within; slot = c.requires.slot; offset = c.offset_in_slot.ensures.value; stands = c.requires.stands })

pub returns : goal.returns
returns g c = c.write_offset.ensures c.args.at (record { within = c.requires.within; slot = c.requires.slot; offset = c.offset_in_slot.ensures.value; stands = c.requires.stands })
