use Rattle.std.proofs.Common.{List, ℕ, ◌≡◌, true, sym, subst, ◌∙◌}
use Rattle.std.specs.List.{list_all}
use Rattle.first_form.specs.Names.{is_word_byte}
use Rattle.first_form.specs.Scans.{is_of}
use Rattle.first_form.specs.declared.scan.Class.TheVariants.{Line}
use Rattle.first_form.proofs.Runs.{run_front}
use Rattle.first_form.proofs.Shown.{shown_passes, word_shown, none_shown, ok_equal}
use Rattle.first_form.proofs.refused.shown_word.Goals as goal

pub name_of-requires : goal.name_of-requires
name_of-requires c = subst (λ (z : List ℕ). list_all is_word_byte z ≡ true) (sym c.past_digits.ensures) (shown_passes c.run.result.0.now c.in-Some.part.now c.in-Some.ensures)

pub returns-in-Some : goal.returns-in-Some
returns-in-Some c = ok_equal _ _ _ c.name_of.ensures (c.past_digits.ensures ∙ word_shown c.args.rest.now c.run.result.0.now c.in-Some.part.now (run_front (is_of Line) _ _ _ c.run.ensures) c.in-Some.ensures)

pub returns-in-None : goal.returns-in-None
returns-in-None c = ok_equal _ _ _ c.from_str.ensures (none_shown c.args.rest.now c.run.result.0.now (run_front (is_of Line) _ _ _ c.run.ensures) c.in-None.ensures)
