-- Where lists end, or why none stands there.
use Rattle.std.proofs.Common.{Result, Ok, Err, IfOk, ◌≡◌, ◌≤◌, ◌+◌, ℕ, Bool, true, false, not, ◌&&◌, List, [], ◌∷◌, ◌++◌, map, length, ap, sym, refl, ◌∙◌, subst, ◌⊎◌, inl, inr, codes}
use Rattle.std.proofs.lemmas.Bool.{false≢true}
use Rattle.std.proofs.lemmas.Slice.Eq.{bytes_eq-Decides}
use Rattle.kernel_grammar.specs.Lexicals.{Lexical, word, number, sign, mark, listed}
use Rattle.kernel_grammar.specs.Words.{Name}
use Rattle.kernel_grammar.specs.Spelling.{name_text, names_text, sum_text, sums_text, over_text}
use Rattle.kernel_grammar.specs.Trees.{Sums, one, first, Over, bare, names}
use Rattle.kernel_grammar.specs.Lines.{numbers_text}
use Rattle.kernel_expressions.specs.Reads.{Next, Reads, IsItem, IsList, bracketed, digits_text}
use Rattle.kernel_expressions.specs.Settled.{Spells, SpellsList, Ends, Stops, NoneNext, Behind, AnyRest, is_mark, ends_level, ends_sums}
use Rattle.kernel_expressions.specs.Turns.{InParens, parens_text, inames_text}
use Rattle.kernel_expressions.specs.declared.stop.Stop.{Stop}
use Rattle.kernel_expressions.proofs.Join.{as_well}
use Rattle.kernel_expressions.proofs.ListSteps.{lone, sums_of, sums_spelled}
use Rattle.kernel_expressions.proofs.Settling.{Leads, whole, leads_ends, Same, same_leads, Optional, optional_leads, optional_none, where_token, where_none, leads_on, Before, Closed, alone, closed_is, opens, closes, Separates, Nothing, AreTokens, token_whole, none_stops}
use Rattle.kernel_expressions.proofs.Samples.{spelled, a_name}

-- behind an item in a list comes the sign, or what the list's rest begins with
pub between_names : (s : List ℕ) → Separates (sign s) AnyRest (Behind (λ x. not (is_mark s x)))
between_names s = record {
  apart = λ rest h. false≢true (sym (ap not ((bytes_eq-Decides s s).1 refl)) ∙ h);
  last = λ rest h. tt;
  goes_on = λ rest. tt;
}

-- what is read is the text of a tree
pub read_text : {S X T : Type 0} {spell : X → List Lexical} {mean : X → T} {v : T} {all : List Lexical} {at next : ℕ} → Reads all at next (IsItem S spell mean v) → Reads all at next (Spells spell)
read_text {S} {X} {T} {spell} {mean} {v} {all} {at} {next} h = as_well all at next (IsItem S spell mean v) (Spells spell) h (λ t i. record { tree = i.tree; spelled = i.spelled })

pub list_text : {S X T : Type 0} {spell : X → List Lexical} {mean : X → T} {between : Lexical} {vs : List T} {all : List Lexical} {at next : ℕ} → Reads all at next (IsList S spell mean between vs) → Reads all at next (SpellsList spell between)
list_text {S} {X} {T} {spell} {mean} {between} {vs} {all} {at} {next} h = as_well all at next (IsList S spell mean between vs) (SpellsList spell between) h (λ t i. record { first = i.first; more = i.more; spelled = i.spelled })

name_tokens : AreTokens (Spells name_text)
name_tokens t h = (word h.tree.word, sym h.spelled)

-- a name
pub name_whole : {S T : Type 0} {mean : Name → T} {v : T} {all : List Lexical} {at next : ℕ} → Reads all at next (IsItem S name_text mean v) → Leads all (Spells name_text) Nothing AnyRest at next
name_whole h = token_whole name_tokens (read_text h)

-- no name
pub name_stops : {all : List Lexical} {at last : ℕ} → at ≤ length all → NoneNext all at (λ x. (n : Name) × (x ≡ word n.word)) last → Stops all (Spells name_text) AnyRest at last
name_stops within h = none_stops h within (spelled name_text a_name) (λ t rest p e. (word p.tree.word, rest, (p.tree, refl), ap (λ xs. xs ++ rest) (sym p.spelled)))

-- ---- sums

sums_list : (sums : Sums) → SpellsList sum_text (mark ",") (sums_text sums)
sums_list (one a) = record { first = a; more = []; spelled = refl }
sums_list (first a b) = let others = sums_list b in record { first = a; more = others.first ∷ others.more; spelled = ap (λ xs. sum_text a ++ mark "," ∷ xs) others.spelled }

pub sums_same : Same (Spells sums_text) (SpellsList sum_text (mark ","))
sums_same = record {
  to = λ t h. subst (SpellsList sum_text (mark ",")) h.spelled (sums_list h.tree);
  back = λ t h. record { tree = sums_of h.first h.more; spelled = sums_spelled h.first h.more ∙ h.spelled };
}

both : (a b : Bool) → (a && b) ≡ true → a ≡ true
both true b h = refl
both false b h = h

sums_end : (rest : List Lexical) → Behind ends_sums rest → Behind (ends_level 9) rest
sums_end [] h = tt
sums_end (x ∷ xs) h = both (ends_level 9 x) (not (is_mark (codes ",") x)) h

pub between_sums : Separates (mark ",") (Behind (ends_level 9)) (Behind ends_sums)
between_sums = record { apart = λ rest h. false≢true h; last = sums_end; goes_on = λ rest. refl }

-- sums in brackets
pub bracketed_same : Same (Spells bracketed) (Before (mark "[") (Closed (Spells sums_text) (mark "]")))
bracketed_same = opens (mark "[") (closes (mark "]") (record { to = λ t h. h; back = λ t h. h }))

-- ---- numbers

digits_tokens : AreTokens (Spells digits_text)
digits_tokens t h = (number h.tree, sym h.spelled)

-- digits
pub digits_whole : {all : List Lexical} {at next : ℕ} {d : List ℕ} → next ≡ at + 1 → Next all at (number d) → Leads all (Spells digits_text) Nothing AnyRest at next
digits_whole {all} {at} {next} {d} e n = token_whole digits_tokens (lone all at next (number d) (Spells digits_text) e n (record { tree = d; spelled = refl }))

-- from an equal place
pub digits_whole_from : {all : List Lexical} {from at next : ℕ} {d : List ℕ} → at ≡ from → next ≡ at + 1 → Next all at (number d) → Leads all (Spells digits_text) Nothing AnyRest from next
digits_whole_from {all} {next = next} e f n = subst (λ m. Leads all (Spells digits_text) Nothing AnyRest m next) e (digits_whole f n)

-- no digits
pub digits_stops : {all : List Lexical} {at last : ℕ} → at ≤ length all → NoneNext all at (λ x. (d : List ℕ) × (x ≡ number d)) last → Stops all (Spells digits_text) AnyRest at last
digits_stops within h = none_stops h within (spelled digits_text []) (λ t rest p e. (number p.tree, rest, (p.tree, refl), ap (λ xs. xs ++ rest) (sym p.spelled)))

pub digits_stops_from : {all : List Lexical} {from at last : ℕ} → at ≡ from → from ≤ length all → NoneNext all at (λ x. (d : List ℕ) × (x ≡ number d)) last → Stops all (Spells digits_text) AnyRest from last
digits_stops_from {all} {last = last} e within h = digits_stops within (subst (λ m. NoneNext all m (λ x. (d : List ℕ) × (x ≡ number d)) last) e h)

-- numbers in brackets, behind the first bracket
abbrev pub Listed : List Lexical → Type 0
Listed = Closed (SpellsList digits_text (mark ",")) (mark "]")

numbers_parts : (list : List (List ℕ)) (t : List Lexical) → numbers_text list ≡ t → Optional (mark "[") Listed t
numbers_parts [] t e = inl (sym e)
numbers_parts (n ∷ ns) t e = inr (record {
  tail = listed (mark ",") (map digits_text (n ∷ ns)) ++ mark "]" ∷ [];
  whole = sym e;
  is = record { front = listed (mark ",") (map digits_text (n ∷ ns)); tail = mark "]" ∷ []; whole = refl; front_is = record { first = n; more = ns; spelled = refl }; tail_is = alone (mark "]") };
})

numbers_text_of : (t : List Lexical) → Optional (mark "[") Listed t → Spells numbers_text t
numbers_text_of t (inl e) = record { tree = []; spelled = sym e }
numbers_text_of t (inr b) = record {
  tree = b.is.front_is.first ∷ b.is.front_is.more;
  spelled = ap (λ xs. mark "[" ∷ xs ++ mark "]" ∷ []) b.is.front_is.spelled ∙ ap (λ xs. mark "[" ∷ xs) (closed_is b.is) ∙ sym b.whole;
}

pub numbers_same : Same (Spells numbers_text) (Optional (mark "[") Listed)
numbers_same = record { to = λ t h. numbers_parts h.tree t h.spelled; back = numbers_text_of }

-- numbers, behind the bracket
pub numbers_lead : {all : List Lexical} {at : ℕ} → Next all at (mark "[") → Leads all (Spells numbers_text) Listed (Behind (λ x. not (is_mark (codes "[") x))) at (at + 1)
numbers_lead n = same_leads numbers_same (optional_leads (λ rest h. false≢true h) refl n)

-- no numbers where no bracket stands
pub no_numbers : {all : List Lexical} {E : List Lexical → Type 0} {at : ℕ} → at ≤ length all → (Next all at (mark "[") → ⊥) → Leads all (Spells numbers_text) Nothing E at at
no_numbers within none = same_leads numbers_same (optional_none within none)

-- ---- inames

names_same : Same (Spells (λ (list : Name × List Name). names_text (list.0 ∷ list.1))) (SpellsList name_text (mark ","))
names_same = record { to = λ t h. record { first = h.tree.0; more = h.tree.1; spelled = h.spelled }; back = λ t h. record { tree = (h.first, h.more); spelled = h.spelled } }

-- names in parentheses, and with a comma behind them
pub parens_same : Same (Spells parens_text) (Before (mark "(") (Closed (SpellsList name_text (mark ",")) (mark ")")))
parens_same = opens (mark "(") (closes (mark ")") names_same)

pub inames_same : Same (Spells inames_text) (Closed (Spells parens_text) (mark ","))
inames_same = closes (mark ",") (record { to = λ t h. h; back = λ t h. h })

over_as : (o : Over) (t rest ys : List Lexical) → over_text o ≡ t → t ++ rest ≡ mark "(" ∷ ys → Spells parens_text t
over_as (bare name) t rest ys e begins = let k : word name.word ∷ rest ≡ mark "(" ∷ ys = ap (λ xs. xs ++ rest) e ∙ begins in cc
over_as (names name list) t rest ys e begins = record { tree = (name, list); spelled = e }

-- inames where a parenthesis stands
pub over_parens : {all : List Lexical} {E : List Lexical → Type 0} {at : ℕ} → Next all at (mark "(") → Leads all (Spells over_text) (Spells parens_text) E at at
over_parens n = where_token n (λ t q. record { tree = names q.tree.0 q.tree.1; spelled = q.spelled }) (λ t rest ys p behind begins. over_as p.tree t rest ys p.spelled begins)

over_not : (o : Over) (t rest : List Lexical) → over_text o ≡ t → Spells name_text t ⊎ ((ys : List Lexical) × (t ++ rest ≡ mark "(" ∷ ys))
over_not (bare name) t rest e = inl (record { tree = name; spelled = e })
over_not (names name list) t rest e = inr ((names_text (name ∷ list) ++ mark ")" ∷ []) ++ rest, ap (λ xs. xs ++ rest) (sym e))

-- inames where none stands
pub over_bare : {all : List Lexical} {E : List Lexical → Type 0} {at : ℕ} → at ≤ length all → (Next all at (mark "(") → ⊥) → Leads all (Spells over_text) (Spells name_text) E at at
over_bare within none = where_none within none (λ t q. record { tree = bare q.tree; spelled = q.spelled }) (λ t rest p e. over_not p.tree t rest p.spelled)

-- what is read is inames in parentheses
pub parens_read : {S : Type 0} {list : List (List ℕ)} {all : List Lexical} {at next : ℕ} → Reads all at next (InParens S list) → Reads all at next (Spells parens_text)
parens_read {S} {list} {all} {at} {next} h = as_well all at next (InParens S list) (Spells parens_text) h (λ t i. record { tree = (i.first, i.more); spelled = i.spelled })

-- what stands in parentheses is inames
pub over_ends_if : (S : Type 0) (all : List Lexical) (at : ℕ) (r : Result (List (List ℕ) × ℕ) Stop) → Next all at (mark "(") → IfOk r (λ read. Reads all at read.1 (InParens S read.0)) → IfOk r (λ read. Ends all (Spells parens_text) AnyRest at read.1)
    → IfOk r (λ read. Ends all (Spells over_text) AnyRest at read.1)
over_ends_if S all at (Ok read) n h k = leads_ends (leads_on (over_parens n) (whole (parens_read h) k))
over_ends_if S all at (Err e) n h k = tt
