-- What stands where an operand is wanted, by its first token.
use Rattle.std.proofs.Common.{◌≡◌, ◌<◌, ◌≤◌, ℕ, List, [], ◌∷◌, ◌++◌, ap, sym, refl, ◌∙◌, subst, append_assoc, arith}
use Rattle.kernel_grammar.specs.declared.step.Extreme.{Extreme}
use Rattle.kernel_grammar.specs.declared.step.Extreme.TheVariants.{Min, Max}
use Rattle.kernel_grammar.specs.declared.step.Prefix.{Prefix}
use Rattle.kernel_grammar.specs.declared.step.Prefix.TheVariants as prefix
use Rattle.kernel_grammar.specs.Lexicals.{Lexical, word, number, key, mark}
use Rattle.kernel_grammar.specs.Words.{Name}
use Rattle.kind_faults.specs.Words.{kind_word}
use Rattle.kernel_grammar.specs.Trees.{Or, Sums, one, first, Atom, digits, multiple, named, indexed, called, called_at, sum, product, extreme, extreme_over, cast, choice, grouped}
use Rattle.kernel_grammar.specs.Spelling.{extreme_text, names_text, in_parentheses, over_text, or_text, sum_text, sums_text, atom_text}
use Rattle.kernel_expressions.specs.declared.frame.Bracket as bracket
use Rattle.kernel_expressions.specs.declared.frame.Bracket.TheVariants as brackets
use Rattle.kernel_expressions.specs.declared.frame.Frame.{Frame}
use Rattle.kernel_expressions.specs.declared.frame.Frame.TheVariants as frame
use Rattle.kernel_expressions.specs.Levels.{prefix_level}
use Rattle.kernel_expressions.specs.Frames.{closing, inner_level, wanted_level}
use Rattle.kernel_expressions.specs.Turns.{IsOver}
use Rattle.kernel_expressions.specs.Tails.{IsText, tail_text, more_places, AreSums, ClosesAll, IsWanted}
use Rattle.kernel_expressions.specs.Follows.{Past, Joins, start, WantsBody, lone, times, NameLeft, alone, at_places, of_none, of_places, ExtremeLeft, of_two, over_names, Shape}
use Rattle.kernel_expressions.proofs.Trees.{prefix_text}
use Rattle.kernel_expressions.proofs.Tails.{HeadOf, of_atom, of_prefix, head_of}
use Rattle.kernel_expressions.proofs.Closings.{low, before_all, bounds}
use Rattle.kernel_expressions.proofs.Starts.{name_start}
use Rattle.kernel_expressions.proofs.Shutting.{wanted_in, body_in, WantsPlace}

-- The text begins with a token, and stands there as this begins.
pub record Opening (least : ℕ) (frames : List Frame) (text : List Lexical) : Type 0 where
  pub first : Lexical
  pub left : List Lexical
  pub is : text ≡ first ∷ left
  pub shape : Shape (start first) least frames first left

an_or : (a : Or) → IsText 1 (or_text a)
an_or a = record { tree = a; spelled = refl; means = λ s. absurd s }

-- the first of sums, and the others
abbrev first_sum : Sums → List Lexical
first_sum (one a) = sum_text a
first_sum (first a places) = sum_text a

abbrev other_sums : Sums → List (List Lexical)
other_sums (one a) = []
other_sums (first a places) = first_sum places ∷ other_sums places

sums_are : (places : Sums) (close : Lexical) → sums_text places ++ close ∷ [] ≡ first_sum places ++ more_places (other_sums places) close
sums_are (one a) close = refl
sums_are (first a places) close = append_assoc (sum_text a) (mark "," ∷ sums_text places) (close ∷ []) ∙ ap (λ xs. sum_text a ++ mark "," ∷ xs) (sums_are places close)

first_is : (places : Sums) → IsText 9 (first_sum places)
first_is (one a) = record { tree = a; spelled = refl; means = λ s. absurd s }
first_is (first a places) = record { tree = a; spelled = refl; means = λ s. absurd s }

others_are : (places : Sums) → AreSums (other_sums places)
others_are (one a) = tt
others_are (first a places) = (first_is places, others_are places)

places_wanted : (b : bracket.Bracket) (least : ℕ) (frames : List Frame) (places : Sums) (left : List Lexical) → ClosesAll least frames 11 left → WantsPlace b least frames ((sums_text places ++ closing b ∷ []) ++ left)
places_wanted b least frames places left closes = λ name count. wanted_in least (frame.Places name b count) frames (first_sum places) (more_places (other_sums places) (closing b)) left _ (first_is places) (other_sums places, others_are places, refl) closes
    (ap (λ xs. xs ++ left) (sums_are places (closing b)) ∙ append_assoc (first_sum places) (more_places (other_sums places) (closing b)) left)

-- two texts in parentheses
two_joined : (P : List Lexical → Type 0) (least : ℕ) (frames : List Frame) (o left : List Lexical) (a : Or) → P o → ClosesAll least frames 11 left → Joins P (Past (mark ",") (WantsBody least frames)) (((o ++ mark "," ∷ or_text a) ++ mark ")" ∷ []) ++ left)
two_joined P least frames o left a is closes = record {
  front = o;
  left = mark "," ∷ ((or_text a ++ mark ")" ∷ []) ++ left);
  is = simp append_assoc;
  begins = is;
  ends = record { left = (or_text a ++ mark ")" ∷ []) ++ left; is = refl; ends = body_in least frames (or_text a) left (an_or a) closes };
}

comma_kept : (o u left : List Lexical) → ((o ++ mark "," ∷ u) ++ mark ")" ∷ []) ++ left ≡ (o ++ mark "," ∷ []) ++ ((u ++ mark ")" ∷ []) ++ left)
comma_kept o u left = simp append_assoc

-- a name stands first
name_opening : (least : ℕ) (frames : List Frame) (name : Name) (left : List Lexical) → NameLeft least frames left → Opening least frames (word name.word ∷ left)
name_opening least frames name left h = record { first = word name.word; left = left; is = refl; shape = subst (λ (n : ℕ). Shape n least frames (word name.word) left) (sym (name_start name)) ((name, refl), h) }

extreme_opening : (which : Extreme) (least : ℕ) (frames : List Frame) (left : List Lexical) → Past (mark "(") (ExtremeLeft least frames) left → Opening least frames (extreme_text which ∷ left)
extreme_opening Min least frames left h = record { first = key "min"; left = left; is = refl; shape = h }
extreme_opening Max least frames left h = record { first = key "max"; left = left; is = refl; shape = h }

atom_opening : (a : Atom) (least : ℕ) (frames : List Frame) (left : List Lexical) → ClosesAll least frames 11 left → Opening least frames (atom_text a ++ left)
atom_opening (digits d) least frames left h = record { first = number d; left = left; is = refl; shape = ((d, refl), lone h) }
atom_opening (multiple d name) least frames left h = record { first = number d; left = word name.word ∷ left; is = refl; shape = ((d, refl), times name (record { left = left; is = refl; ends = h })) }
atom_opening (named name) least frames left h = name_opening least frames name left (alone h)
atom_opening (indexed name places) least frames left h = name_opening least frames name _ (at_places (record { left = (sums_text places ++ mark "]" ∷ []) ++ left; is = refl; ends = places_wanted brackets.Index least frames places left h }))
atom_opening (called name) least frames left h = name_opening least frames name _ (of_none (record { left = mark ")" ∷ left; is = refl; ends = record { left = left; is = refl; ends = h } }))
atom_opening (called_at name places) least frames left h = name_opening least frames name _ (of_places (record { left = (sums_text places ++ mark ")" ∷ []) ++ left; is = refl; ends = places_wanted brackets.Call least frames places left h }))
atom_opening (sum over a) least frames left h = record { first = key "sum"; left = _; is = refl; shape = record { left = ((over_text over ++ mark "," ∷ or_text a) ++ mark ")" ∷ []) ++ left; is = refl; ends = two_joined (IsOver ⊥ []) least frames (over_text over) left a (record { tree = over; spelled = refl; means = λ s. absurd s }) h } }
atom_opening (product over a) least frames left h = record { first = key "product"; left = _; is = refl; shape = record { left = ((over_text over ++ mark "," ∷ or_text a) ++ mark ")" ∷ []) ++ left; is = refl; ends = two_joined (IsOver ⊥ []) least frames (over_text over) left a (record { tree = over; spelled = refl; means = λ s. absurd s }) h } }
atom_opening (extreme which a b) least frames left h = extreme_opening which least frames _ (record {
  left = ((or_text a ++ mark "," ∷ or_text b) ++ mark ")" ∷ []) ++ left;
  is = refl;
  ends = of_two (λ w at. wanted_in least (frame.First w at) frames (or_text a) (mark "," ∷ or_text b ++ mark ")" ∷ []) left _ (an_or a) (or_text b, an_or b, refl) h (simp append_assoc));
})
atom_opening (extreme_over which name other list a) least frames left h = extreme_opening which least frames _ (record {
  left = ((in_parentheses (names_text (name ∷ other ∷ list)) ++ mark "," ∷ or_text a) ++ mark ")" ∷ []) ++ left;
  is = refl;
  ends = over_names (record { front = in_parentheses (names_text (name ∷ other ∷ list)) ++ mark "," ∷ []; left = (or_text a ++ mark ")" ∷ []) ++ left; is = comma_kept (in_parentheses (names_text (name ∷ other ∷ list))) (or_text a) left; begins = record { first = name; second = other; more = list; is = refl }; ends = body_in least frames (or_text a) left (an_or a) h });
})
atom_opening (cast kind a) least frames left h = record {
  first = key "cast";
  left = _;
  is = refl;
  shape = record {
    left = word (kind_word kind) ∷ mark "," ∷ ((or_text a ++ mark ")" ∷ []) ++ left);
    is = refl;
    ends = record { first = word (kind_word kind); left = mark "," ∷ ((or_text a ++ mark ")" ∷ []) ++ left); is = refl; sort = (kind, refl); ends = record { left = (or_text a ++ mark ")" ∷ []) ++ left; is = refl; ends = body_in least frames (or_text a) left (an_or a) h } };
  };
}
atom_opening (choice a b c) least frames left h = record {
  first = key "if";
  left = _;
  is = refl;
  shape = record {
    left = (((or_text a ++ mark "," ∷ or_text b) ++ mark "," ∷ or_text c) ++ mark ")" ∷ []) ++ left;
    is = refl;
    ends = wanted_in least frame.Test frames (or_text a) (mark "," ∷ or_text b ++ mark "," ∷ or_text c ++ mark ")" ∷ []) left _ (an_or a) (or_text b, or_text c, an_or b, an_or c, refl) h (simp append_assoc);
  };
}
atom_opening (grouped a) least frames left h = record { first = mark "("; left = (or_text a ++ mark ")" ∷ []) ++ left; is = refl; shape = wanted_in least frame.Group frames (or_text a) (mark ")" ∷ []) left _ (an_or a) refl h (append_assoc (or_text a) (mark ")" ∷ []) left) }

prefix_opening : (op : Prefix) (least : ℕ) (frames : List Frame) (u left : List Lexical) → IsText (prefix_level op) u → wanted_level least frames ≤ prefix_level op → ClosesAll least frames (prefix_level op) left → Opening least frames (prefix_text op ∷ (u ++ left))
prefix_opening prefix.Not least frames u left is l h = record { first = key "not"; left = u ++ left; is = refl; shape = (l, wanted_in least (frame.Prefix prefix.Not) frames u [] left _ is refl h refl) }
prefix_opening prefix.Negate least frames u left is l h = record { first = mark "-"; left = u ++ left; is = refl; shape = wanted_in least (frame.Prefix prefix.Negate) frames u [] left _ is refl h refl }
prefix_opening prefix.Invert least frames u left is l h = record { first = mark "~"; left = u ++ left; is = refl; shape = wanted_in least (frame.Prefix prefix.Invert) frames u [] left _ is refl h refl }

head_opening : (least l : ℕ) (frames : List Frame) (t left : List Lexical) → wanted_level least frames ≤ l → HeadOf l t → ClosesAll least frames l left → Opening least frames (t ++ left)
head_opening least l frames _ left k (of_atom a links e) h = subst (Opening least frames) (sym (append_assoc (atom_text a) (tail_text links) left)) (atom_opening a least frames (tail_text links ++ left) (before_all least frames 11 l links left e h))
head_opening least l frames _ left k (of_prefix op u links is e) h = subst (λ xs. Opening least frames (prefix_text op ∷ xs)) (sym (append_assoc u (tail_text links) left))
    (prefix_opening op least frames u (tail_text links ++ left) is (omega (arith, k, low (prefix_level op) l links e)) (before_all least frames (prefix_level op) l links left e h))

-- an operand is wanted at some level
prefix_some : (op : Prefix) → (0 < prefix_level op) × (prefix_level op ≤ 11)
prefix_some prefix.Not = (omega arith, omega arith)
prefix_some prefix.Negate = (omega arith, omega arith)
prefix_some prefix.Invert = (omega arith, omega arith)

inner_some : (f : Frame) → (0 < inner_level f) × (inner_level f ≤ 11)
inner_some (frame.Infix op) = (omega (arith, (bounds op).some), omega (arith, (bounds op).most))
inner_some (frame.Prefix op) = prefix_some op
inner_some frame.Group = (omega arith, omega arith)
inner_some (frame.Body s) = (omega arith, omega arith)
inner_some (frame.Places name b count) = (omega arith, omega arith)
inner_some (frame.First which at) = (omega arith, omega arith)
inner_some frame.Test = (omega arith, omega arith)
inner_some frame.Then = (omega arith, omega arith)

wanted_some : (least : ℕ) (frames : List Frame) → 0 < least → least ≤ 11 → (0 < wanted_level least frames) × (wanted_level least frames ≤ 11)
wanted_some least [] some within = (some, within)
wanted_some least (f ∷ frames) some within = inner_some f

-- what is wanted begins with a token that tells what stands there
pub opening_of : (least : ℕ) (frames : List Frame) (text : List Lexical) → 0 < least → least ≤ 11 → IsWanted least frames text → Opening least frames text
opening_of least frames text some within h = let l = wanted_some least frames some within in
    subst (Opening least frames) (sym h.whole) (head_opening least (wanted_level least frames) frames h.operand h.rest (omega arith) (head_of (wanted_level least frames) h.operand l.0 l.1 h.is) h.closes)
