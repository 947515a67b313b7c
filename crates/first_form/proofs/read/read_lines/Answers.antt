use Rattle.first_form.proofs.FormTexts.{two_of, three_of, four_of, refused_1, refused_2, refused_3, refused_4, refused_5, refused_6, five_made, not_empty, at_end}
use Rattle.first_form.proofs.read.read_lines.Goals as goal

pub returns-in_default : goal.returns-in_default
returns-in_default c = refused_1 _ c.in_default.ensures

pub returns-in_default-domain_line : goal.returns-in_default-domain_line
returns-in_default-domain_line c = refused_2 _ _ c.in-Some.ensures c.in_default-domain_line.ensures

pub returns-in_default-array_line : goal.returns-in_default-array_line
returns-in_default-array_line c =
    refused_3 _ _ _ _ (two_of _ _ _ _ _ c.in-Some.ensures c.in-Some-domain_line.ensures) c.in_default-array_line.ensures

pub returns-in_default-array_line-2 : goal.returns-in_default-array_line-2
returns-in_default-array_line-2 c =
    refused_4 _ _ _ _ _ (three_of _ _ _ _ _ _ _ c.in-Some.ensures c.in-Some-domain_line.ensures c.in-Some-array_line.ensures) c.in_default-array_line-2.ensures

pub returns-in_default-store_line : goal.returns-in_default-store_line
returns-in_default-store_line c =
    refused_5 _ _ _ _ _ _ (four_of _ _ _ _ _ _ _ _ _ c.in-Some.ensures c.in-Some-domain_line.ensures c.in-Some-array_line.ensures c.in-Some-array_line-2.ensures) c.in_default-store_line.ensures

pub returns-then-not-is_empty : goal.returns-then-not-is_empty
returns-then-not-is_empty c =
    refused_6 _ _ _ (five_made _ _ _ _ _ _ _ _ (four_of _ _ _ _ _ _ _ _ _ c.in-Some.ensures c.in-Some-domain_line.ensures c.in-Some-array_line.ensures c.in-Some-array_line-2.ensures) c.in-Some-store_line.ensures) (not_empty _ c.if-not-is_empty.ensures)

pub returns : goal.returns
returns c =
    at_end _ _ _ (five_made _ _ _ _ _ _ _ _ (four_of _ _ _ _ _ _ _ _ _ c.in-Some.ensures c.in-Some-domain_line.ensures c.in-Some-array_line.ensures c.in-Some-array_line-2.ensures) c.in-Some-store_line.ensures) c.if-not-is_empty.ensures
