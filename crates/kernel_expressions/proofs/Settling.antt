-- Texts that are read part by part: where they end, and why none stands there. A step of reading is a `Leads`: what is read begins a text of the first sort, and such a
-- text goes on as one of the second. Steps chain by `leads_on`; where nothing is left they give `Ends` by `leads_ends`, and before a refusal `Stops` by `leads_stops`.
use Rattle.std.proofs.Common.{Option, None, Some, is_some, MatchOption, false, true≢false, Result, Ok, Err, IfErr, IsErrAnd, ◌≡◌, ◌≤◌, ◌+◌, ◌-◌, ◌⊎◌, inl, inr, ⊎_elim, ℕ, true, List, [], ◌∷◌, ◌++◌, map, take, drop, length, ap, sym, refl, ◌∙◌, subst, append_assoc, append-nil, arith, length-append, length-drop, take-append-drop, take-take, drop-drop, take_at}
use Rattle.std.proofs.lemmas.List.{drop-take}
use Rattle.kernel_grammar.specs.Lexicals.{Lexical, listed}
use Rattle.kernel_expressions.specs.Reads.{Next, Reads}
use Rattle.kernel_expressions.specs.Settled.{Spells, SpellsList, SameTo, Stands, Ends, Begins, Stops, NoneNext, Halts}
use Rattle.kernel_expressions.specs.declared.stop.Stop.{Stop}
use Rattle.kernel_expressions.specs.declared.stop.Stop.TheVariants.{OutOfMemory, Refused}
use Rattle.kernel_expressions.proofs.Join.{text_length}

-- ---- places of equal tokens

-- a token at the front of what is left
pub behind_next : (all : List Lexical) (at : ℕ) (x : Lexical) (ys : List Lexical) → drop at all ≡ x ∷ ys → drop (at + 1) all ≡ ys
behind_next all at x ys e = sym (drop-drop 1 at all) ∙ ap (drop 1) e

pub next_of : (all : List Lexical) (at : ℕ) (x : Lexical) (ys : List Lexical) → drop at all ≡ x ∷ ys → Next all at x
next_of all at x ys e = record {
  here = e ∙ ap (λ zs. x ∷ zs) (sym (behind_next all at x ys e));
  within = omega (arith, ap length e, length-drop at all);
}

one_more : (all : List Lexical) (at : ℕ) (x : Lexical) (zs : List Lexical) → drop at all ≡ zs → take 1 zs ≡ x ∷ [] → Next all at x
one_more all at x [] e f = cc
one_more all at x (y ∷ ys) e f = let same : y ≡ x = cc in next_of all at x ys (e ∙ ap (λ z. z ∷ ys) same)

-- what is the same up to a place is so up to an earlier one
pub same_before : (all others : List Lexical) (m n : ℕ) → m ≤ n → SameTo all others n → SameTo all others m
same_before all others m n w h = sym (take-take (m + 1) (n + 1) others (omega (arith, w))) ∙ ap (take (m + 1)) h ∙ take-take (m + 1) (n + 1) all (omega (arith, w))

-- there stands the same token, and by `sym` of what is the same also the other way
pub next_in : (all others : List Lexical) (at n : ℕ) (x : Lexical) → at ≤ n → SameTo all others n → Next all at x → Next others at x
next_in all others at n x w s h = one_more others at x (drop at others) refl
    (sym (drop-take at 1 others) ∙ ap (drop at) (same_before all others at n w s) ∙ drop-take at 1 all ∙ ap (take 1) h.here)

-- the tokens between two places
pub text_between : (all t : List Lexical) (at mid : ℕ) → at ≤ mid → mid ≤ length all → drop at all ≡ t ++ drop mid all → drop at (take mid all) ≡ t
text_between all t at mid on within e =
    let n : length t ≡ mid - at = omega (arith, on, within, ap length e, length-append t (drop mid all), length-drop at all, length-drop mid all) in
    let p : mid ≡ at + (mid - at) = omega (arith, on) in
    ap (λ m. drop at (take m all)) p ∙ drop-take at (mid - at) all ∙ ap (take (mid - at)) e ∙ take_at t (drop mid all) (mid - at) n

split_between : (all : List Lexical) (at mid : ℕ) → at ≤ mid → drop at all ≡ drop at (take mid all) ++ drop mid all
split_between all at mid on =
    let p : at + (mid - at) ≡ mid = omega (arith, on) in
    sym (take-append-drop (mid - at) (drop at all)) ∙ ap (λ xs. xs ++ drop (mid - at) (drop at all)) (sym (drop-take at (mid - at) all) ∙ ap (λ m. drop at (take m all)) p)
    ∙ ap (λ xs. drop at (take mid all) ++ xs) (drop-drop (mid - at) at all ∙ ap (λ m. drop m all) p)

pub between_on : (all : List Lexical) (at mid last : ℕ) → at ≤ mid → mid ≤ last → last ≤ length all → drop at (take last all) ≡ drop at (take mid all) ++ drop mid (take last all)
between_on all at mid last h k w = text_between all (drop at (take mid all) ++ drop mid (take last all)) at last (omega (arith, h, k)) w
    (split_between all at mid h ∙ ap (λ xs. drop at (take mid all) ++ xs) (split_between all mid last k) ∙ sym (append_assoc (drop at (take mid all)) (drop mid (take last all)) (drop last all)))

-- ---- sorts of texts

-- what makes a text one of the sort
abbrev pub Sort : Type 1
Sort = List Lexical → Type 0

-- no token
abbrev pub Nothing : Sort
Nothing text = text ≡ []

-- a text of the sort
abbrev pub Sample : Sort → Type 0
Sample P = (text : List Lexical) × P text

-- a token and then a text of the sort
pub record Before (x : Lexical) (Q : Sort) (text : List Lexical) : Type 0 where
  pub tail : List Lexical
  pub whole : text ≡ x ∷ tail
  pub is : Q tail

-- a text of the first sort and then one of the second
pub record Then (P Q : Sort) (text : List Lexical) : Type 0 where
  pub front : List Lexical
  pub tail : List Lexical
  pub whole : text ≡ front ++ tail
  pub front_is : P front
  pub tail_is : Q tail

-- no token, or this one and then a text of the sort
abbrev pub Optional : Lexical → Sort → Sort
Optional x Q text = Nothing text ⊎ Before x Q text

-- a text of the sort and then a token
abbrev pub Closed : Sort → Lexical → Sort
Closed P close = Then P (Before close Nothing)

pub alone : (x : Lexical) → Before x Nothing (x ∷ [])
alone x = record { tail = []; whole = refl; is = refl }

pub closed_is : {P : Sort} {close : Lexical} {t : List Lexical} → (h : Closed P close t) → h.front ++ close ∷ [] ≡ t
closed_is {close = close} h = ap (λ xs. h.front ++ xs) (ap (λ xs. close ∷ xs) (sym h.tail_is.is) ∙ sym h.tail_is.whole) ∙ sym h.whole

-- The sorts have the same texts.
pub record Same (P Q : Sort) : Type 0 where
  pub to : (t : List Lexical) → P t → Q t
  pub back : (t : List Lexical) → Q t → P t

-- The tokens up to the middle begin a text of the first sort, and then each such text goes on as one of the second.
pub record Leads (all : List Lexical) (P Q E : Sort) (at mid : ℕ) : Type 0 where
  pub on : at ≤ mid
  pub within : mid ≤ length all
  pub leads : (others rest : List Lexical) → SameTo all others mid → Stands P E others at rest → Stands Q E others mid rest
  pub joins : (t : List Lexical) → Q t → P (drop at (take mid all) ++ t)

-- ---- steps

rejoined : (all t : List Lexical) (P : Sort) (at mid last : ℕ) → at ≤ mid → mid ≤ last → last ≤ length all → P (drop at (take mid all) ++ (drop mid (take last all) ++ t)) → P (drop at (take last all) ++ t)
rejoined all t P at mid last h k w = subst P (sym (append_assoc (drop at (take mid all)) (drop mid (take last all)) t) ∙ ap (λ xs. xs ++ t) (sym (between_on all at mid last h k w)))

-- steps one after the other
pub leads_on : {all : List Lexical} {P Q R E : Sort} {at mid last : ℕ} → Leads all P Q E at mid → Leads all Q R E mid last → Leads all P R E at last
leads_on {all} {P} {Q} {R} {E} {at} {mid} {last} h k = record {
  on = omega (arith, h.on, k.on);
  within = k.within;
  leads = λ others rest s stands. k.leads others rest s (h.leads others rest (same_before all others mid last k.on s) stands);
  joins = λ t r. rejoined all t P at mid last h.on k.on k.within (h.joins (drop mid (take last all) ++ t) (k.joins t r));
}

-- none of what is left, so none of the whole
pub leads_stops : {all : List Lexical} {P Q E : Sort} {at mid last : ℕ} → Leads all P Q E at mid → Stops all Q E mid last → Stops all P E at last
leads_stops {all} {P} {Q} {E} {at} {mid} {last} h k = record {
  on = omega (arith, h.on, k.on);
  within = k.within;
  none = λ others rest s stands. k.none others rest s (h.leads others rest (same_before all others mid last k.on s) stands);
  begun = record {
    more = k.begun.more;
    is = rejoined all k.begun.more P at mid last h.on k.on k.within (h.joins (drop mid (take last all) ++ k.begun.more) k.begun.is);
  };
}

-- where nothing is left, the text ends
pub leads_ends : {all : List Lexical} {P E : Sort} {at next : ℕ} → Leads all P Nothing E at next → Ends all P E at next
leads_ends {all} {P} {E} {at} {next} h = record {
  ends = λ others rest s stands. let left = h.leads others rest s stands in left.here ∙ ap (λ xs. xs ++ rest) left.is;
}

-- a text that is read and ends
pub whole : {all : List Lexical} {P E : Sort} {at next : ℕ} → Reads all at next P → Ends all P E at next → Leads all P Nothing E at next
whole {all} {P} {E} {at} {next} h k = record {
  on = h.on;
  within = h.within;
  leads = λ others rest s stands. record { text = []; here = k.ends others rest s stands; is = refl; behind = stands.behind };
  joins = λ t e. subst P (sym (text_between all h.text at next h.on h.within h.ahead) ∙ sym (append-nil (drop at (take next all))) ∙ ap (λ xs. drop at (take next all) ++ xs) (sym e)) h.is;
}

at_front : (all t : List Lexical) (P : Sort) (at : ℕ) → at ≤ length all → P t → P (drop at (take at all) ++ t)
at_front all t P at within h = subst P (ap (λ xs. xs ++ t) (sym (text_between all [] at at (omega arith) within refl))) h

-- at the same place, the sort is told more exactly
pub stays : {all : List Lexical} {P Q E : Sort} {at : ℕ} → at ≤ length all → ((t : List Lexical) → Q t → P t)
    → ((others rest text : List Lexical) → SameTo all others at → drop at others ≡ text ++ rest → P text → E rest → Q text) → Leads all P Q E at at
stays {all} {P} {Q} {E} {at} within back to = record {
  on = omega arith;
  within = within;
  leads = λ others rest s stands. record { text = stands.text; here = stands.here; is = to others rest stands.text s stands.here stands.is stands.behind; behind = stands.behind };
  joins = λ t q. at_front all t P at within (back t q);
}

-- equal sorts
pub leads_same : {all : List Lexical} {P Q E : Sort} {at : ℕ} → at ≤ length all → Same P Q → Leads all P Q E at at
leads_same within same = stays within same.back (λ others rest text s here p e. same.to text p)

-- where a token stands
pub where_token : {all : List Lexical} {P Q E : Sort} {at : ℕ} {x : Lexical} → Next all at x → ((t : List Lexical) → Q t → P t)
    → ((t rest ys : List Lexical) → P t → E rest → t ++ rest ≡ x ∷ ys → Q t) → Leads all P Q E at at
where_token {all} {at = at} {x = x} n back to = stays (omega (arith, n.within)) back
    (λ others rest text s here p e. to text rest (drop (at + 1) others) p e (sym here ∙ (next_in all others at at x (omega arith) s n).here))

-- where none of the sort stands
pub where_other : {all : List Lexical} {P Q E : Sort} {K : Lexical → Type 0} {at : ℕ} → at ≤ length all → ((x : Lexical) → Next all at x → K x → ⊥) → ((t : List Lexical) → Q t → P t)
    → ((t rest : List Lexical) → P t → E rest → Q t ⊎ ((x : Lexical) × (ys : List Lexical) × K x × (t ++ rest ≡ x ∷ ys))) → Leads all P Q E at at
where_other {all} {Q = Q} {at = at} within none back to = stays within back (λ others rest text s here p e.
    ⊎_elim {C = Q text} (λ q. q) (λ y. absurd (none y.0 (next_in others all at at y.0 (omega arith) (sym s) (next_of others at y.0 y.1 (here ∙ y.3))) y.2)) (to text rest p e))

-- where it does not stand
pub where_none : {all : List Lexical} {P Q E : Sort} {at : ℕ} {x : Lexical} → at ≤ length all → (Next all at x → ⊥) → ((t : List Lexical) → Q t → P t)
    → ((t rest : List Lexical) → P t → E rest → Q t ⊎ ((ys : List Lexical) × (t ++ rest ≡ x ∷ ys))) → Leads all P Q E at at
where_none {all} {P} {Q} {E} {at} {x} within none back to = where_other {K = λ y. y ≡ x} within (λ y n e. none (subst (Next all at) e n)) back
    (λ t rest p e. ⊎_elim {C = Q t ⊎ ((y : Lexical) × (ys : List Lexical) × (y ≡ x) × (t ++ rest ≡ y ∷ ys))} inl (λ y. inr (x, y.0, refl, y.1)) (to t rest p e))

pub same_stops : {all : List Lexical} {P Q E : Sort} {at last : ℕ} → Same P Q → Stops all Q E at last → Stops all P E at last
same_stops same stops = leads_stops (leads_same (omega (arith, stops.on, stops.within)) same) stops

pub same_leads : {all : List Lexical} {P Q R E : Sort} {at mid : ℕ} → Same P Q → Leads all Q R E at mid → Leads all P R E at mid
same_leads same leads = leads_on (leads_same (omega (arith, leads.on, leads.within)) same) leads

-- a token and what stands behind it
pub token_leads : {all : List Lexical} {Q E : Sort} {at next : ℕ} {x : Lexical} → next ≡ at + 1 → Next all at x → Leads all (Before x Q) Q E at next
token_leads {all} {Q} {E} {at} {next} {x} e n = record {
  on = omega (arith, e);
  within = omega (arith, e, n.within);
  leads = λ others rest s stands. record {
    text = stands.is.tail;
    here = ap (λ m. drop m others) e ∙ behind_next others at x (stands.is.tail ++ rest) (stands.here ∙ ap (λ xs. xs ++ rest) stands.is.whole);
    is = stands.is.is;
    behind = stands.behind;
  };
  joins = λ t q. record {
    tail = t;
    whole = ap (λ xs. xs ++ t) (text_between all (x ∷ []) at next (omega (arith, e)) (omega (arith, e, n.within)) (n.here ∙ ap (λ m. x ∷ drop m all) (sym e)));
    is = q;
  };
}

-- the first of two parts
in_front : {P Q F E : Sort} {all rest : List Lexical} {at : ℕ} → (h : Stands (Then P Q) E all at rest) → ((t rest : List Lexical) → Q t → E rest → F (t ++ rest)) → Stands P F all at (h.is.tail ++ rest)
in_front {rest = rest} h follows = record {
  text = h.is.front;
  here = h.here ∙ ap (λ xs. xs ++ rest) h.is.whole ∙ append_assoc h.is.front h.is.tail rest;
  is = h.is.front_is;
  behind = follows h.is.tail rest h.is.tail_is h.behind;
}

-- a text and what stands behind it
pub part_leads : {all : List Lexical} {P Q F E : Sort} {at mid : ℕ} → Leads all P Nothing F at mid → ((t rest : List Lexical) → Q t → E rest → F (t ++ rest)) → Leads all (Then P Q) Q E at mid
part_leads {all} {P} {Q} {F} {E} {at} {mid} h follows = record {
  on = h.on;
  within = h.within;
  leads = λ others rest s stands. record {
    text = stands.is.tail;
    here = (leads_ends h).ends others (stands.is.tail ++ rest) s (in_front stands follows);
    is = stands.is.tail_is;
    behind = stands.behind;
  };
  joins = λ t q. record { front = drop at (take mid all); tail = t; whole = refl; front_is = subst P (append-nil (drop at (take mid all))) (h.joins [] refl); tail_is = q };
}

-- no such part, so none of two
pub part_stops : {all : List Lexical} {P Q F E : Sort} {at last : ℕ} → Stops all P F at last → ((t rest : List Lexical) → Q t → E rest → F (t ++ rest)) → Sample Q → Stops all (Then P Q) E at last
part_stops {all} {P} {Q} {F} {E} {at} {last} h follows some = record {
  on = h.on;
  within = h.within;
  none = λ others rest s stands. h.none others (stands.is.tail ++ rest) s (in_front stands follows);
  begun = record {
    more = h.begun.more ++ some.0;
    is = record { front = drop at (take last all) ++ h.begun.more; tail = some.0; whole = sym (append_assoc (drop at (take last all)) h.begun.more some.0); front_is = h.begun.is; tail_is = some.1 };
  };
}

-- no text begins with the token there
pub none_stops : {all : List Lexical} {P E : Sort} {K : Lexical → Type 0} {at last : ℕ} → NoneNext all at K last → at ≤ length all → Sample P
    → ((t rest : List Lexical) → P t → E rest → (x : Lexical) × (ys : List Lexical) × K x × (t ++ rest ≡ x ∷ ys)) → Stops all P E at last
none_stops {all} {P} {E} {K} {at} {last} h within some starts = record {
  on = omega (arith, h.same);
  within = omega (arith, h.same, within);
  none = λ others rest s stands. let first = starts stands.text rest stands.is stands.behind in
      h.none first.0 (next_in others all at last first.0 (omega (arith, h.same)) (sym s) (next_of others at first.0 first.1 (stands.here ∙ first.3))) first.2;
  begun = record { more = some.0; is = subst (λ m. P (drop at (take m all) ++ some.0)) (sym h.same) (at_front all some.0 P at within some.1) };
}

-- the token is another
pub token_stops : {all : List Lexical} {Q E : Sort} {x : Lexical} {at last : ℕ} → NoneNext all at (λ y. y ≡ x) last → at ≤ length all → Sample Q → Stops all (Before x Q) E at last
token_stops {x = x} h within some = none_stops h within (x ∷ some.0, record { tail = some.0; whole = refl; is = some.1 })
    (λ t rest p e. (x, p.tail ++ rest, refl, ap (λ xs. xs ++ rest) p.whole))

-- ---- fewer texts

pub ends_less : {all : List Lexical} {P Q E : Sort} {at next : ℕ} → ((t : List Lexical) → P t → Q t) → Ends all Q E at next → Ends all P E at next
ends_less to h = record { ends = λ others rest s stands. h.ends others rest s (record { text = stands.text; here = stands.here; is = to stands.text stands.is; behind = stands.behind }) }

pub stops_less : {all : List Lexical} {P Q E : Sort} {at last : ℕ} → ((t : List Lexical) → P t → Q t) → ((front : List Lexical) → Begins Q front → Begins P front) → Stops all Q E at last → Stops all P E at last
stops_less {all} {at = at} {last = last} to begins h = record {
  on = h.on;
  within = h.within;
  none = λ others rest s stands. h.none others rest s (record { text = stands.text; here = stands.here; is = to stands.text stands.is; behind = stands.behind });
  begun = begins (drop at (take last all)) h.begun;
}

no_text : (P : Sort) (t rest : List Lexical) → t ++ rest ≡ rest → P t → P []
no_text P [] rest e h = h
no_text P (x ∷ t) rest e h = absurd (omega (arith, ap length e, length-append t rest))

-- where such texts are empty, none of a sort of others stands
pub empty_stops : {all : List Lexical} {P Q E : Sort} {at : ℕ} → ((t : List Lexical) → P t → Q t) → (P [] → ⊥) → Sample P → at ≤ length all → Ends all Q E at at → Stops all P E at at
empty_stops {all} {P} {at = at} to apart some within h = record {
  on = omega arith;
  within = within;
  none = λ others rest s stands. apart (no_text P stands.text rest (sym stands.here ∙ (ends_less to h).ends others rest s stands) stands.is);
  begun = record { more = some.0; is = at_front all some.0 P at within some.1 };
}

-- ---- a part that may be left out

there_opens : (Q E : Sort) (x : Lexical) → ((rest : List Lexical) → E (x ∷ rest) → ⊥) → (t rest ys : List Lexical) → Optional x Q t → E rest → t ++ rest ≡ x ∷ ys → Before x Q t
there_opens Q E x apart t rest ys (inl e) behind begins = absurd (apart ys (subst E (ap (λ xs. xs ++ rest) (sym e) ∙ begins) behind))
there_opens Q E x apart t rest ys (inr b) behind begins = b

-- it stands there, and what stands behind begins otherwise
pub optional_leads : {all : List Lexical} {Q E : Sort} {at next : ℕ} {x : Lexical} → ((rest : List Lexical) → E (x ∷ rest) → ⊥) → next ≡ at + 1 → Next all at x → Leads all (Optional x Q) Q E at next
optional_leads {Q = Q} {E = E} {x = x} apart e n = leads_on (where_token n (λ t q. inr q) (there_opens Q E x apart)) (token_leads e n)

no_opening : {Q : Sort} (x : Lexical) (t rest : List Lexical) → Optional x Q t → Nothing t ⊎ ((ys : List Lexical) × (t ++ rest ≡ x ∷ ys))
no_opening x t rest (inl e) = inl e
no_opening x t rest (inr b) = inr (b.tail ++ rest, ap (λ xs. xs ++ rest) b.whole)

-- it is left out
pub optional_none : {all : List Lexical} {Q E : Sort} {at : ℕ} {x : Lexical} → at ≤ length all → (Next all at x → ⊥) → Leads all (Optional x Q) Nothing E at at
optional_none {x = x} within none = where_none within none (λ t q. inl q) (λ t rest p e. no_opening x t rest p)

-- ---- sorts of spelled texts: a token before them, a token behind them, trees of another shape, and texts in sequence

pub same_on : {P Q R : Sort} → Same P Q → Same Q R → Same P R
same_on h k = record { to = λ t p. k.to t (h.to t p); back = λ t r. h.back t (k.back t r) }

-- trees of another shape with the same texts
pub respelled : {X Y : Type 0} {spell : X → List Lexical} {write : Y → List Lexical} (f : X → Y) (g : Y → X) → ((x : X) → write (f x) ≡ spell x) → ((y : Y) → spell (g y) ≡ write y) → Same (Spells spell) (Spells write)
respelled f g e k = record { to = λ t h. record { tree = f h.tree; spelled = e h.tree ∙ h.spelled }; back = λ t h. record { tree = g h.tree; spelled = k h.tree ∙ h.spelled } }

-- a text and what stands behind it
pub followed : {X Y : Type 0} {write : Y → List Lexical} {Q : Sort} (spell : X → List Lexical) → Same (Spells write) Q → Same (Spells (λ (p : X × Y). spell p.0 ++ write p.1)) (Then (Spells spell) Q)
followed {write = write} spell same = record {
  to = λ t h. record { front = spell h.tree.0; tail = write h.tree.1; whole = sym h.spelled; front_is = record { tree = h.tree.0; spelled = refl }; tail_is = same.to (write h.tree.1) (record { tree = h.tree.1; spelled = refl }) };
  back = λ t h. let i = same.back h.tail h.tail_is in record { tree = (h.front_is.tree, i.tree); spelled = ap (λ xs. xs ++ write i.tree) h.front_is.spelled ∙ ap (λ xs. h.front ++ xs) i.spelled ∙ sym h.whole };
}

pub opens : {X : Type 0} {spell : X → List Lexical} {Q : Sort} (open_with : Lexical) → Same (Spells spell) Q → Same (Spells (λ x. open_with ∷ spell x)) (Before open_with Q)
opens {spell = spell} open_with same = record {
  to = λ t h. record { tail = spell h.tree; whole = sym h.spelled; is = same.to (spell h.tree) (record { tree = h.tree; spelled = refl }) };
  back = λ t h. let i = same.back h.tail h.is in record { tree = i.tree; spelled = ap (λ xs. open_with ∷ xs) i.spelled ∙ sym h.whole };
}

pub closes : {X : Type 0} {spell : X → List Lexical} {P : Sort} (close : Lexical) → Same (Spells spell) P → Same (Spells (λ x. spell x ++ close ∷ [])) (Closed P close)
closes {spell = spell} close same = record {
  to = λ t h. record { front = spell h.tree; tail = close ∷ []; whole = sym h.spelled; front_is = same.to (spell h.tree) (record { tree = h.tree; spelled = refl }); tail_is = alone _ };
  back = λ t h. let i = same.back h.front h.front_is in record { tree = i.tree; spelled = ap (λ xs. xs ++ close ∷ []) i.spelled ∙ closed_is h };
}

-- ---- a text and a token behind it

close_follows : (F : Sort) (close : Lexical) → ((rest : List Lexical) → F (close ∷ rest)) → (t rest : List Lexical) → Before close Nothing t → F (t ++ rest)
close_follows F close follows t rest h = subst (λ xs. F (xs ++ rest)) (sym (h.whole ∙ ap (λ xs. close ∷ xs) h.is)) (follows rest)

-- a text that is read, and the token behind it
pub closed : {all : List Lexical} {P F E : Sort} {at mid next : ℕ} (close : Lexical) → Leads all P Nothing F at mid → ((rest : List Lexical) → F (close ∷ rest)) → next ≡ mid + 1 → Next all mid close → Leads all (Closed P close) Nothing E at next
closed {F = F} close h follows e n = leads_on (part_leads h (λ t rest q behind. close_follows F close follows t rest q)) (token_leads e n)

-- no such text stands there
pub none_closed : {all : List Lexical} {P F E : Sort} {at last : ℕ} (close : Lexical) → Stops all P F at last → ((rest : List Lexical) → F (close ∷ rest)) → Stops all (Closed P close) E at last
none_closed {F = F} close h follows = part_stops h (λ t rest q behind. close_follows F close follows t rest q) (close ∷ [], alone _)

-- one stands there, but not the token behind it
pub not_closed : {all : List Lexical} {P F E : Sort} {at mid last : ℕ} (close : Lexical) → Leads all P Nothing F at mid → ((rest : List Lexical) → F (close ∷ rest)) → NoneNext all mid (λ y. y ≡ close) last → Stops all (Closed P close) E at last
not_closed {F = F} close h follows none = leads_stops (part_leads h (λ t rest q behind. close_follows F close follows t rest q)) (token_stops none h.within ([], refl))

-- such a text
pub sample_closed : {P : Sort} {close : Lexical} → Sample P → Sample (Closed P close)
sample_closed {close = close} some = (some.0 ++ close ∷ [], record { front = some.0; tail = close ∷ []; whole = refl; front_is = some.1; tail_is = alone _ })

-- ---- single tokens

-- a sort of single tokens
abbrev pub AreTokens : Sort → Type 0
AreTokens P = (t : List Lexical) → P t → (x : Lexical) × (t ≡ x ∷ [])

pub token_whole : {all : List Lexical} {P E : Sort} {at next : ℕ} → AreTokens P → Reads all at next P → Leads all P Nothing E at next
token_whole {all} {P} {E} {at} {next} single h = whole h (record {
  ends = λ others rest s stands.
      let mine = single h.text h.is in
      let its = single stands.text stands.is in
      let e : next ≡ at + 1 = omega (arith, text_length all at next P h, ap length mine.1) in
      ap (λ m. drop m others) e ∙ behind_next others at its.0 rest (stands.here ∙ ap (λ xs. xs ++ rest) its.1);
})

-- ---- lists

-- items, each behind a token
abbrev pub others_text : {X : Type 0} → (X → List Lexical) → Lexical → List X → List Lexical
others_text spell between [] = []
others_text spell between (x ∷ xs) = between ∷ spell x ++ others_text spell between xs

pub listed_others : {X : Type 0} (spell : X → List Lexical) (between : Lexical) (x : X) (xs : List X) → listed between (map spell (x ∷ xs)) ≡ spell x ++ others_text spell between xs
listed_others spell between x [] = sym (append-nil (spell x))
listed_others spell between x (y ∷ ys) = ap (λ t. spell x ++ between ∷ t) (listed_others spell between y ys)

-- The text is that of items, each behind a token.
abbrev pub SpellsOthers : {X : Type 0} → (X → List Lexical) → Lexical → Sort
SpellsOthers spell between = Spells (others_text spell between)

-- The token stands between items: what stands behind an item may be the token or what stands behind the list, and no such rest begins with it.
pub record Separates (between : Lexical) (F E : Sort) : Type 0 where
  pub apart : (rest : List Lexical) → E (between ∷ rest) → ⊥
  pub last : (rest : List Lexical) → E rest → F rest
  pub goes_on : (rest : List Lexical) → F (between ∷ rest)

list_parts : {X : Type 0} (spell : X → List Lexical) (between : Lexical) → Same (SpellsList spell between) (Then (Spells spell) (SpellsOthers spell between))
list_parts spell between = record {
  to = λ t h. record {
    front = spell h.first;
    tail = others_text spell between h.more;
    whole = sym h.spelled ∙ listed_others spell between h.first h.more;
    front_is = record { tree = h.first; spelled = refl };
    tail_is = record { tree = h.more; spelled = refl };
  };
  back = λ t h. record {
    first = h.front_is.tree;
    more = h.tail_is.tree;
    spelled = listed_others spell between h.front_is.tree h.tail_is.tree ∙ ap (λ xs. xs ++ others_text spell between h.tail_is.tree) h.front_is.spelled ∙ ap (λ xs. h.front ++ xs) h.tail_is.spelled ∙ sym h.whole;
  };
}

others_follow : {X : Type 0} (spell : X → List Lexical) (between : Lexical) (F E : Sort) → Separates between F E → (list : List X) (t rest : List Lexical) → others_text spell between list ≡ t → E rest → F (t ++ rest)
others_follow spell between F E h [] t rest e behind = subst (λ xs. F (xs ++ rest)) e (h.last rest behind)
others_follow spell between F E h (x ∷ xs) t rest e behind = subst (λ xs. F (xs ++ rest)) e (h.goes_on _)

-- an item of a list
pub list_item : {X : Type 0} {spell : X → List Lexical} {between : Lexical} {all : List Lexical} {F E : Sort} {at next : ℕ} → Separates between F E
    → Leads all (Spells spell) Nothing F at next → Leads all (SpellsList spell between) (SpellsOthers spell between) E at next
list_item {spell = spell} {between = between} {F = F} {E = E} h item = same_leads (list_parts spell between)
    (part_leads item (λ t rest q e. others_follow spell between F E h q.tree t rest q.spelled e))

other_there : {X : Type 0} (spell : X → List Lexical) (between : Lexical) (F E : Sort) → Separates between F E → (list : List X) (t rest ys : List Lexical) → others_text spell between list ≡ t → E rest → t ++ rest ≡ between ∷ ys
    → Before between (SpellsList spell between) t
other_there spell between F E h [] t rest ys e behind begins = absurd (h.apart ys (subst E (ap (λ xs. xs ++ rest) e ∙ begins) behind))
other_there spell between F E h (x ∷ xs) t rest ys e behind begins = record {
  tail = listed between (map spell (x ∷ xs));
  whole = sym e ∙ ap (λ t. between ∷ t) (sym (listed_others spell between x xs));
  is = record { first = x; more = xs; spelled = refl };
}

-- behind the token between, the list goes on as a list
pub list_next : {X : Type 0} {spell : X → List Lexical} {between : Lexical} {all : List Lexical} {F E : Sort} {at mid next : ℕ} → Separates between F E
    → Leads all (SpellsList spell between) (SpellsOthers spell between) E at mid → next ≡ mid + 1 → Next all mid between → Leads all (SpellsList spell between) (SpellsList spell between) E at next
list_next {spell = spell} {between = between} {F = F} {E = E} h list e n = leads_on list (leads_on
    (where_token n (λ t q. record { tree = q.is.first ∷ q.is.more; spelled = ap (λ xs. between ∷ xs) (sym (listed_others spell between q.is.first q.is.more) ∙ q.is.spelled) ∙ sym q.whole })
    (λ t rest ys p behind begins. other_there spell between F E h p.tree t rest ys p.spelled behind begins))
    (token_leads e n))

-- one more item of a list
pub list_more : {X : Type 0} {spell : X → List Lexical} {between : Lexical} {all : List Lexical} {F E : Sort} {at mid next last : ℕ} → Separates between F E
    → Leads all (SpellsList spell between) (SpellsOthers spell between) E at mid → next ≡ mid + 1 → Next all mid between → Leads all (Spells spell) Nothing F next last
    → Leads all (SpellsList spell between) (SpellsOthers spell between) E at last
list_more h list e n item = leads_on (list_next h list e n) (list_item h item)

no_other : {X : Type 0} (spell : X → List Lexical) (between : Lexical) (list : List X) (t rest : List Lexical) → others_text spell between list ≡ t → Nothing t ⊎ ((ys : List Lexical) × (t ++ rest ≡ between ∷ ys))
no_other spell between [] t rest e = inl (sym e)
no_other spell between (x ∷ xs) t rest e = inr ((spell x ++ others_text spell between xs) ++ rest, ap (λ xs. xs ++ rest) (sym e))

-- a list ends where the token does not stand
pub list_ends : {X : Type 0} {spell : X → List Lexical} {between : Lexical} {all : List Lexical} {E : Sort} {at next : ℕ}
    → Leads all (SpellsList spell between) (SpellsOthers spell between) E at next → (Next all next between → ⊥) → Leads all (SpellsList spell between) Nothing E at next
list_ends {spell = spell} {between = between} list none = leads_on list (where_none list.within none (λ t q. record { tree = []; spelled = sym q }) (λ t rest p e. no_other spell between p.tree t rest p.spelled))

-- no item, so no list
pub list_stops : {X : Type 0} {spell : X → List Lexical} {between : Lexical} {all : List Lexical} {F E : Sort} {at last : ℕ} → Separates between F E
    → Stops all (Spells spell) F at last → Stops all (SpellsList spell between) E at last
list_stops {spell = spell} {between = between} {F = F} {E = E} h stops = same_stops (list_parts spell between) (part_stops stops (λ t rest q e. others_follow spell between F E h q.tree t rest q.spelled e) ([], record { tree = []; spelled = refl }))

-- a list that may be empty, and a token behind it
abbrev pub SpellsAny : {X : Type 0} → (X → List Lexical) → Lexical → Lexical → Sort
SpellsAny {X} spell between close = Spells (λ (list : List X). listed between (map spell list) ++ close ∷ [])

any_none : {X : Type 0} (spell : X → List Lexical) (between close : Lexical) → ((x : X) (ys zs : List Lexical) → spell x ++ ys ≡ close ∷ zs → ⊥) → (list : List X) (t rest ys : List Lexical) → listed between (map spell list) ++ close ∷ [] ≡ t
    → t ++ rest ≡ close ∷ ys → Before close Nothing t
any_none spell between close apart [] t rest ys e begins = subst (Before close Nothing) e (alone close)
any_none spell between close apart (x ∷ list) t rest ys e begins = absurd (apart x (others_text spell between list ++ close ∷ rest) ys
    (sym (append_assoc (spell x ++ others_text spell between list) (close ∷ []) rest ∙ append_assoc (spell x) (others_text spell between list) (close ∷ rest))
    ∙ ap (λ xs. (xs ++ close ∷ []) ++ rest) (sym (listed_others spell between x list)) ∙ ap (λ xs. xs ++ rest) e ∙ begins))

-- where the token stands and no item begins with it, the list is empty
pub list_none : {X : Type 0} {spell : X → List Lexical} {between close : Lexical} {all : List Lexical} {E : Sort} {at : ℕ} → ((x : X) (ys zs : List Lexical) → spell x ++ ys ≡ close ∷ zs → ⊥) → Next all at close
    → Leads all (SpellsAny spell between close) (Before close Nothing) E at at
list_none {spell = spell} {between = between} {close = close} apart n = where_token n (λ t q. record { tree = []; spelled = sym (q.whole ∙ ap (λ xs. close ∷ xs) q.is) })
    (λ t rest ys p behind begins. any_none spell between close apart p.tree t rest ys p.spelled begins)

any_some : {X : Type 0} (spell : X → List Lexical) (between close : Lexical) (list : List X) (t rest : List Lexical) → listed between (map spell list) ++ close ∷ [] ≡ t
    → Closed (SpellsList spell between) close t ⊎ ((ys : List Lexical) × (t ++ rest ≡ close ∷ ys))
any_some spell between close [] t rest e = inr (rest, ap (λ xs. xs ++ rest) (sym e))
any_some spell between close (x ∷ list) t rest e = inl (record {
  front = listed between (map spell (x ∷ list));
  tail = close ∷ [];
  whole = sym e;
  front_is = record { first = x; more = list; spelled = refl };
  tail_is = alone _;
})

-- where it does not stand, there is an item
pub list_some : {X : Type 0} {spell : X → List Lexical} {between close : Lexical} {all : List Lexical} {E : Sort} {at : ℕ} → at ≤ length all → (Next all at close → ⊥)
    → Leads all (SpellsAny spell between close) (Closed (SpellsList spell between) close) E at at
list_some {spell = spell} {between = between} {close = close} within none = where_none within none
    (λ t q. record { tree = q.front_is.first ∷ q.front_is.more; spelled = ap (λ xs. xs ++ close ∷ []) q.front_is.spelled ∙ closed_is q })
    (λ t rest p e. any_some spell between close p.tree t rest p.spelled)

-- ---- refusals

halts_on : {P Q : ℕ → Type 0} (e : Stop) → ((last : ℕ) → P last → Q last) → Halts P e → Halts Q e
halts_on OutOfMemory on h = tt
halts_on (Refused at) on h = on at h

-- a refusal that is handed on
pub handed_on : {T : Type 0} (P Q : ℕ → Type 0) (r : Result T Stop) (e : Stop) → IsErrAnd r (λ x. x ≡ e) → Halts P e → ((last : ℕ) → P last → Q last) → IfErr r (Halts Q)
handed_on P Q (Ok x) e h halts on = tt
handed_on P Q (Err x) e h halts on = subst (Halts Q) (sym h) (halts_on {P = P} {Q = Q} e on halts)

-- another call's refusal
pub refused_as : {T : Type 0} (P Q : ℕ → Type 0) (r : Result T Stop) → IfErr r (Halts P) → ((last : ℕ) → P last → Q last) → IfErr r (Halts Q)
refused_as P Q (Ok x) halts on = tt
refused_as P Q (Err e) halts on = halts_on {P = P} {Q = Q} e on halts

-- whether a token stands there
pub there_if : {all : List Lexical} {at : ℕ} {x : Lexical} (r : Option ℕ) → true ≡ is_some r → MatchOption r (Next all at x → ⊥) (λ next. (next ≡ at + 1) × Next all at x) → Next all at x
there_if None e h = absurd (true≢false e)
there_if (Some next) e h = h.1

pub absent_if : {all : List Lexical} {at : ℕ} {x : Lexical} (r : Option ℕ) → false ≡ is_some r → MatchOption r (Next all at x → ⊥) (λ next. (next ≡ at + 1) × Next all at x) → Next all at x → ⊥
absent_if None e h = h
absent_if (Some next) e h = absurd (true≢false (sym e))
