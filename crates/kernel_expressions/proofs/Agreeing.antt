-- Lists with the same tokens up to a place.
use Rattle.std.proofs.Common.{◌≡◌, ◌≤◌, ◌+◌, ◌-◌, ℕ, List, [], ◌∷◌, ◌++◌, take, drop, ap, sym, refl, ◌∙◌, subst, arith, Result, Ok, Err}
use Rattle.std.specs.Result.{IfOk, IfErr, IsErrAnd}
use Rattle.std.proofs.lemmas.List.{drop-take, drop-drop}
use native.Mathlib.Numerals.{unary_clauses}
use Rattle.std.proofs.lemmas.Grind.{common_steps}
use Rattle.kernel_grammar.specs.Lexicals.{Lexical}
use Rattle.kernel_expressions.specs.declared.stop.Stop.{Stop}
use Rattle.kernel_expressions.specs.declared.stop.Stop.TheVariants.{OutOfMemory, Refused}
use Rattle.kernel_expressions.specs.Reads.{Next}
use Rattle.kernel_expressions.specs.Settled.{SameTo, Halts, NoneNext}
use Rattle.kernel_expressions.specs.Follows.{Leads, Never, Past, PastSome}

tails : (all : List Lexical) (at k : ℕ) → drop at (take ((at + k) + 1) all) ≡ take (k + 1) (drop at all)
tails all at k = ap (λ (n : ℕ). drop at (take n all)) (let e : (at + k) + 1 ≡ at + (k + 1) = omega arith in e) ∙ drop-take at (k + 1) all

tail_same : (all others : List Lexical) (at k n : ℕ) → n ≡ at + k → SameTo all others n → take (k + 1) (drop at others) ≡ take (k + 1) (drop at all)
tail_same all others at k n e h = sym (tails others at k) ∙ ap (λ xs. drop at xs) (subst (λ (m : ℕ). take (m + 1) others ≡ take (m + 1) all) e h) ∙ tails all at k

head_same : (k : ℕ) (x : Lexical) (xs ys : List Lexical) → take (k + 1) (x ∷ xs) ≡ take (k + 1) ys → (zs : List Lexical) × (ys ≡ x ∷ zs)
head_same k x xs [] e = let f : x ∷ take k xs ≡ [] = simp unary_clauses at e in absurd (cc)
head_same k x xs (y ∷ ys) e = let f : x ∷ take k xs ≡ y ∷ take k ys = simp unary_clauses at e in (ys, cc)

-- a token stands there
next_is : (all zs : List Lexical) (at : ℕ) (x : Lexical) → drop at all ≡ x ∷ zs → Next all at x
next_is all zs at x e = record {
  here = e ∙ ap (λ ys. x ∷ ys) (ap (λ xs. drop 1 xs) (sym e) ∙ drop-drop 1 at all);
  within = grind (arith, common_steps, e);
}

-- the same token stands there
pub agrees : (all others xs : List Lexical) (at n : ℕ) (x : Lexical) → at ≤ n → SameTo all others n → drop at others ≡ x ∷ xs → Next all at x
agrees all others xs at n x h same e =
    let t = tail_same all others at (n - at) n (omega (arith, h)) same in
    let s = head_same (n - at) x xs (drop at all) (ap (λ ys. take ((n - at) + 1) ys) (sym e) ∙ t) in
    next_is all s.0 at x s.1

-- the rest behind a token
pub rest_of : (all xs : List Lexical) (at next : ℕ) (x : Lexical) → next ≡ at + 1 → drop at all ≡ x ∷ xs → drop next all ≡ xs
rest_of all xs at next x n e = ap (λ (m : ℕ). drop m all) n ∙ sym (drop-drop 1 at all) ∙ ap (λ ys. drop 1 ys) e

-- the same tokens up to an earlier place
pub same_less : (all others : List Lexical) (m n : ℕ) → m ≤ n → SameTo all others n → SameTo all others m
same_less all others m n h e = let k : take (m + 1) (take (n + 1) others) ≡ take (m + 1) (take (n + 1) all) = ap (λ xs. take (m + 1) xs) e in grind (arith, common_steps, h, e, k)

-- two tokens at one place
pub one_token : (all : List Lexical) (at : ℕ) (x y : Lexical) → Next all at x → Next all at y → x ≡ y
one_token all at x y h k = let e : x ∷ drop (at + 1) all ≡ y ∷ drop (at + 1) all = sym h.here ∙ k.here in cc

-- ---- from place to place

pub leads_on : {all : List Lexical} {E P Q R : List Lexical → Type 0} {a b c : ℕ} → Leads all E a P b Q → Leads all E b Q c R → Leads all E a P c R
leads_on {all} {E} {P} {Q} {R} {a} {b} {c} h k = record {
  on = omega (arith, h.on, k.on);
  left = λ others rest same s. k.left others rest same (h.left others rest (same_less all others b c k.on same) s);
}

pub leads_never : {all : List Lexical} {E P Q : List Lexical → Type 0} {a b last : ℕ} → Leads all E a P b Q → Never all E b Q last → Never all E a P last
leads_never {all} {E} {P} {Q} {a} {b} {last} h k = record {
  on = omega (arith, h.on, k.on);
  none = λ others rest same s. k.none others rest same (h.left others rest (same_less all others b last k.on same) s);
}

-- another sort of text at the same place
pub leads_as : {all : List Lexical} {E P Q : List Lexical → Type 0} {a : ℕ} → ((t : List Lexical) → P t → Q t) → Leads all E a P a Q
leads_as {all} {E} {P} {Q} {a} made = record {
  on = omega arith;
  left = λ others rest same s. record { text = s.text; here = s.here; is = made s.text s.is; behind = s.behind };
}

-- The tokens begin with that at the place.
pub record Sees (all : List Lexical) (at : ℕ) (tokens : List Lexical) : Type 0 where
  pub token : (x : Lexical) (xs : List Lexical) → tokens ≡ x ∷ xs → Next all at x
  pub found : (x : Lexical) → Next all at x → (xs : List Lexical) × (tokens ≡ x ∷ xs)

sees : (all others tokens : List Lexical) (a n : ℕ) → a ≤ n → SameTo all others n → drop a others ≡ tokens → Sees all a tokens
sees all others tokens a n h same e = record {
  token = λ x xs k. agrees all others xs a n x h same (e ∙ k);
  found = λ x next. (drop (a + 1) others, sym e ∙ (agrees others all (drop (a + 1) all) a n x h (sym same) next.here).here);
}

-- the token at the place tells
pub leads_here : {all : List Lexical} {E P Q : List Lexical → Type 0} {a : ℕ} → ((t rest : List Lexical) → P t → E rest → Sees all a (t ++ rest) → Q t) → Leads all E a P a Q
leads_here {all} {E} {P} {Q} {a} made = record {
  on = omega arith;
  left = λ others rest same s. record { text = s.text; here = s.here; is = made s.text rest s.is s.behind (sees all others (s.text ++ rest) a a (omega arith) same s.here); behind = s.behind };
}

pub never_here : {all : List Lexical} {E P : List Lexical → Type 0} {a last : ℕ} → last ≡ a → ((t rest : List Lexical) → P t → E rest → Sees all a (t ++ rest) → ⊥) → Never all E a P last
never_here {all} {E} {P} {a} {last} e made = record {
  on = omega (arith, e);
  none = λ others rest same s. made s.text rest s.is s.behind (sees all others (s.text ++ rest) a last (omega (arith, e)) same s.here);
}

-- a token is behind
pub leads_past : {all : List Lexical} {E Q : List Lexical → Type 0} {a next : ℕ} {x : Lexical} → next ≡ a + 1 → Leads all E a (Past x Q) next Q
leads_past {all} {E} {Q} {a} {next} {x} e = record {
  on = omega (arith, e);
  left = λ others rest same s. record {
    text = s.is.left;
    here = rest_of others (s.is.left ++ rest) a next x e (s.here ∙ ap (λ xs. xs ++ rest) s.is.is);
    is = s.is.ends;
    behind = s.behind;
  };
}

-- another token stands there
pub never_past : {all : List Lexical} {E Q : List Lexical → Type 0} {a last : ℕ} {x : Lexical} → last ≡ a → (Next all a x → ⊥) → Never all E a (Past x Q) last
never_past {all} {E} {Q} {a} {last} {x} e other = record {
  on = omega (arith, e);
  none = λ others rest same s. other (agrees all others (s.is.left ++ rest) a last x (omega (arith, e)) same (s.here ∙ ap (λ xs. xs ++ rest) s.is.is));
}

-- a token of the sort is behind
pub leads_some : {all : List Lexical} {E Q : List Lexical → Type 0} {S : Lexical → Type 0} {a next : ℕ} → next ≡ a + 1 → Leads all E a (PastSome S Q) next Q
leads_some {all} {E} {Q} {S} {a} {next} e = record {
  on = omega (arith, e);
  left = λ others rest same s. record {
    text = s.is.left;
    here = rest_of others (s.is.left ++ rest) a next s.is.first e (s.here ∙ ap (λ xs. xs ++ rest) s.is.is);
    is = s.is.ends;
    behind = s.behind;
  };
}

-- no token of the sort stands there
pub never_some : {all : List Lexical} {E Q : List Lexical → Type 0} {S : Lexical → Type 0} {a last : ℕ} → NoneNext all a S last → Never all E a (PastSome S Q) last
never_some {all} {E} {Q} {S} {a} {last} h = never_here h.same (λ t rest p b s. h.none p.first (s.token p.first (p.left ++ rest) (ap (λ xs. xs ++ rest) p.is)) p.sort)

-- the same, behind what leads there
pub past_on : {all : List Lexical} {E P Q : List Lexical → Type 0} {a b c : ℕ} {x : Lexical} → Leads all E a P b (Past x Q) → c ≡ b + 1 → Leads all E a P c Q
past_on {all} {E} {P} {Q} {a} {b} {c} {x} h e = leads_on h (leads_past e)

pub some_on : {all : List Lexical} {E P Q : List Lexical → Type 0} {S : Lexical → Type 0} {a b c : ℕ} → Leads all E a P b (PastSome S Q) → c ≡ b + 1 → Leads all E a P c Q
some_on {all} {E} {P} {Q} {S} {a} {b} {c} h e = leads_on h (leads_some e)

pub past_halts : {all : List Lexical} {E P Q : List Lexical → Type 0} {a b last : ℕ} {x : Lexical} → Leads all E a P b (Past x Q) → NoneNext all b (λ y. y ≡ x) last → Never all E a P last
past_halts {all} {E} {P} {Q} {a} {b} {last} {x} h k = leads_never h (never_past k.same (λ n. k.none x n refl))

pub some_halts : {all : List Lexical} {E P Q : List Lexical → Type 0} {S : Lexical → Type 0} {a b last : ℕ} → Leads all E a P b (PastSome S Q) → NoneNext all b S last → Never all E a P last
some_halts {all} {E} {P} {Q} {S} {a} {b} {last} h k = leads_never h (never_some k)

-- a refusal where a text of some sort is wanted
pub halts_as : {P Q : ℕ → Type 0} (stop : Stop) → Halts P stop → ((last : ℕ) → P last → Q last) → Halts Q stop
halts_as {P} {Q} OutOfMemory h made = tt
halts_as {P} {Q} (Refused at) h made = made at h

pub refused_as : {X : Type 0} {P Q : ℕ → Type 0} (r : Result X Stop) → IfErr r (Halts P) → ((last : ℕ) → P last → Q last) → IfErr r (Halts Q)
refused_as {X} {P} {Q} (Ok x) h made = tt
refused_as {X} {P} {Q} (Err stop) h made = halts_as stop h made

-- a refusal is passed on
pub passed_on : {X : Type 0} {P Q : ℕ → Type 0} (r : Result X Stop) (stop : Stop) → IsErrAnd r (λ e. e ≡ stop) → Halts P stop → ((last : ℕ) → P last → Q last) → IfErr r (Halts Q)
passed_on {X} {P} {Q} (Ok x) stop e h made = tt
passed_on {X} {P} {Q} (Err other) stop e h made = subst (Halts Q) (sym e) (halts_as stop h made)

-- an answer is as well this
pub answers_as : {X : Type 0} {P Q : X → Type 0} (r : Result X Stop) → IfOk r P → ((x : X) → P x → Q x) → IfOk r Q
answers_as {X} {P} {Q} (Ok x) h made = made x h
answers_as {X} {P} {Q} (Err stop) h made = tt
