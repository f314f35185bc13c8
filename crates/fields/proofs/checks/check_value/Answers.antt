-- What the closures compute of a slot is what the definitions say of it.
use Rattle.std.proofs.Common.{◌≡◌, rules}
use Rattle.fields.specs.Checks.{every_slot, is_named, is_selected}
use Rattle.fields.proofs.checks.check_value.Goals as goal
use Rattle.fields.proofs.checks.check_value.Goals.{After-every_slot, After-every_slot-2}

named : (c : After-every_slot) → c.every_slot.result ≡ every_slot (is_named c.args.field.thread) c.args.row c.args.field
named c = c.every_slot.ensures (is_named c.args.field.thread) (λ slot x r b e. search rules)

selected : (c : After-every_slot-2) → c.every_slot-2.result ≡ every_slot is_selected c.args.row c.args.field
selected c = c.every_slot-2.ensures is_selected (λ slot x r b e. search rules)

pub returns-then-not-every_slot : goal.returns-then-not-every_slot
returns-then-not-every_slot c = search (rules, named (goal.at.returns-then-not-every_slot c).After-every_slot)

pub returns-then-not-every_slot-2 : goal.returns-then-not-every_slot-2
returns-then-not-every_slot-2 c =
    search (rules, named (goal.at.returns-then-not-every_slot-2 c).After-every_slot, selected (goal.at.returns-then-not-every_slot-2 c).After-every_slot-2)

pub returns-then-not-is_cell : goal.returns-then-not-is_cell
returns-then-not-is_cell c =
    search (rules, named (goal.at.returns-then-not-is_cell c).After-every_slot, selected (goal.at.returns-then-not-is_cell c).After-every_slot-2)

pub returns : goal.returns
returns c = search (rules, named (goal.at.returns c).After-every_slot, selected (goal.at.returns c).After-every_slot-2)
