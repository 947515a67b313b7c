use Rattle.quasi_forms.proofs.FloorSums.{first_again, first_new}
use Rattle.quasi_forms.proofs.floors.add_first.Goals as goal

pub returns-in_ok-push : goal.returns-in_ok-push
returns-in_ok-push c =
    first_new c.args.floors.now c.args.at c.index-floors-at.result c.in_ok-copy.field-0 c.args.made.now.items c.push.new.self.items c.requires.within c.index-floors-at.is c.if-not-is_among.ensures c.requires.made c.in_ok-copy.ensures c.in_ok-push.ensures.items

pub returns-else-not-is_among : goal.returns-else-not-is_among
returns-else-not-is_among c = first_again c.args.floors.now c.args.at c.index-floors-at.result c.args.made.now.items c.requires.within c.index-floors-at.is c.if-not-is_among.ensures c.requires.made
