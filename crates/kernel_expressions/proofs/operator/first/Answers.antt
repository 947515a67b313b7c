use Rattle.std.proofs.Common.{◌≡◌, [], ◌∷◌, refl}
use Rattle.kernel_grammar.specs.Lexicals.{word, mark}
use Rattle.kernel_expressions.specs.FirstPlaces.{IsGrouped}
use Rattle.kernel_expressions.proofs.Extremes.{first_popped, first_kept, lone_single, lone_ends, grouped_single, grouped_ends}
use Rattle.kernel_expressions.proofs.Agreeing.{passed_on}
use Rattle.kernel_expressions.proofs.Shutting.{first_past, with_step, shut_opens, shut_never}
use Rattle.kernel_expressions.proofs.operator.first.Goals as goal

pub returns-in_ok-name-in-Lone-clause-moves : goal.returns-in_ok-name-in-Lone-clause-moves
returns-in_ok-name-in-Lone-clause-moves c = first_popped _ c.args.part.now c.forget_last.new.self c.opened.new.part _ _ _ _ c.in-Lone.word.now _ (λ text. text ≡ word c.in-Lone.word.now ∷ []) _ c.opened.ensures.opens c.forget_last.ensures.frames c.forget_last.ensures.steps c.in_ok-next.ensures.read.0 c.in_ok-next.ensures.read.1
    c.in-Lone.ensures (lone_single c.lone_words.ensures.bare c.in-Lone.word.now) (lone_ends _ c.in-Lone.word.now _ c.in_ok-name-in-Lone.ensures)

pub returns-in_ok-inames-in-Grouped-clause-moves : goal.returns-in_ok-inames-in-Grouped-clause-moves
returns-in_ok-inames-in-Grouped-clause-moves c = first_popped _ c.args.part.now c.forget_last-in-Grouped.new.self c.opened-in-Grouped.new.part _ _ _ _ c.in-Grouped.word.now _ (IsGrouped c.in-Grouped.word.now) _ c.opened-in-Grouped.ensures.opens c.forget_last-in-Grouped.ensures.frames c.forget_last-in-Grouped.ensures.steps c.in_ok-next.ensures.read.0 c.in_ok-next.ensures.read.1
    c.in-Grouped.ensures (grouped_single c.lone_words.ensures.signs c.in-Grouped.word.now) (grouped_ends _ c.in-Grouped.word.now _ _ c.in_ok-inames-in-Grouped.ensures c.in_ok-name-in-Grouped.ensures)

pub returns-in-Other-clause-moves : goal.returns-in-Other-clause-moves
returns-in-Other-clause-moves c = first_kept _ c.args.part.now c.opened-in-Other.new.part _ _ _ _ _ c.opened-in-Other.ensures.opens c.in_ok-next.ensures.read.0 c.in_ok-next.ensures.read.1 c.in-Other.ensures

pub returns-in_err-next-clause-none : goal.returns-in_err-next-clause-none
returns-in_err-next-clause-none c = passed_on _ _ c.from_residual.ensures.1 c.in_err-next.ensures.stops (λ last h. shut_never h (λ least t. first_past _ _ least _ t))

pub returns-in_ok-name-in-Lone-clause-goes : goal.returns-in_ok-name-in-Lone-clause-goes
returns-in_ok-name-in-Lone-clause-goes c = shut_opens _ c.args.part.now c.forget_last.new.self c.opened.new.part _ _ (mark ",") _ _ _ c.opened.ensures.opens c.forget_last.ensures.frames c.in_ok-next.ensures.read.0 (λ least t h. with_step _ _ _ _ t (first_past _ _ least _ t h))

pub returns-in_ok-inames-in-Grouped-clause-goes : goal.returns-in_ok-inames-in-Grouped-clause-goes
returns-in_ok-inames-in-Grouped-clause-goes c = shut_opens _ c.args.part.now c.forget_last-in-Grouped.new.self c.opened-in-Grouped.new.part _ _ (mark ",") _ _ _ c.opened-in-Grouped.ensures.opens c.forget_last-in-Grouped.ensures.frames c.in_ok-next.ensures.read.0 (λ least t h. with_step _ _ _ _ t (first_past _ _ least _ t h))

pub returns-in-Other-clause-goes : goal.returns-in-Other-clause-goes
returns-in-Other-clause-goes c = shut_opens _ c.args.part.now c.args.part.now c.opened-in-Other.new.part _ _ (mark ",") _ _ _ c.opened-in-Other.ensures.opens refl c.in_ok-next.ensures.read.0 (λ least t h. with_step _ _ _ _ t (first_past _ _ least _ t h))
