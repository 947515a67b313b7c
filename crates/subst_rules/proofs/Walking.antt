-- Rules that a walk comes to.
use Rattle.std.specs.Prelude.{◌≡◌, ℕ, suc, ◌+◌, ◌<◌, ◌≤◌, nat_eq, nat_lt, Bool, true, false, not, ◌&&◌, ◌||◌, if◌then◌else◌, List, [], ◌∷◌, ◌++◌, length, slice_get, slice_index_or, Option, Some, None}
use Rattle.std.specs.List.{list_any}
use Rattle.std.specs.Option.{option_map}
use Rattle.std.proofs.Common.{refl, sym, ap, ◌∙◌, subst, ◌⊎◌, inl, inr, arith}
use Rattle.std.proofs.lemmas.Bool.{lt-ltb, ltb-true}
use Rattle.std.proofs.lemmas.Option.{slice_get-map, slice_get_past}
use Rattle.std.proofs.lemmas.List.Folds.{list_any-append, list_any_at}
use Rattle.std.proofs.lemmas.Grind.{common_steps}
use Rattle.expr_tree.specs.Scenes.{is_among}
use Rattle.kernel_ir.specs.declared.kernel.Kernel.{Kernel}
use Rattle.kernel_ir.specs.declared.kernel.SubstRule.{SubstRule}
use Rattle.kernel_ir.specs.Mentions.{listed, calls}
use Rattle.kernel_ir.specs.Valid.{body_calls, calls_along, HasNoRuleCycle}
use Rattle.subst_rules.specs.Uses.{or_empty, calls_at, calls_of, is_used, walks}
use Rattle.subst_rules.specs.Refused.{IsFirstCycle}
use Rattle.subst_rules.specs.Walks.{with_rule, with_uses, Reaches, IsWalked, ReachesItself}
use Rattle.subst_rules.proofs.Bools.{both, first_of_both, second_of_both, either_first, either_second, which, not_true}

-- ---- one rule more

abbrev Called : List (ℕ × ℕ) → ℕ → Bool
Called cs v = list_any (λ c. nat_eq c.0 v) cs

more_keeps : (flag : Bool) (work : List ℕ) (rule v : ℕ) → is_among work v ≡ true → is_among (if flag then work ++ rule ∷ [] else work) v ≡ true
more_keeps true work rule v h = list_any-append (λ u. nat_eq u v) work (rule ∷ []) ∙ either_first (is_among work v) (nat_eq rule v || false) h
more_keeps false work rule v h = h

more_only : (flag : Bool) (work : List ℕ) (rule v : ℕ) → is_among (if flag then work ++ rule ∷ [] else work) v ≡ true → (is_among work v ≡ true) ⊎ (nat_eq rule v ≡ true)
more_only true work rule v h = elim (which (is_among work v) (nat_eq rule v || false) (sym (list_any-append (λ u. nat_eq u v) work (rule ∷ [])) ∙ h)) [ inl k ↦ inl k | inr k ↦ elim (which (nat_eq rule v) false k) [ inl m ↦ inr m | inr m ↦ absurd (cc) ] ]
more_only false work rule v h = inl h

more_has : (below among : Bool) (work : List ℕ) (rule v : ℕ) → is_among work v ≡ among → below ≡ true → nat_eq rule v ≡ true → is_among (if below && not among then work ++ rule ∷ [] else work) v ≡ true
more_has true true work rule v is within same = is
more_has true false work rule v is within same = list_any-append (λ u. nat_eq u v) work (rule ∷ []) ∙ either_second (is_among work v) (nat_eq rule v || false) (either_first (nat_eq rule v) false same)
more_has false among work rule v is within same = absurd (cc)

more_place : (flag : Bool) (work : List ℕ) (rule place : ℕ) → place < length work → slice_index_or (if flag then work ++ rule ∷ [] else work) place 0 ≡ slice_index_or work place 0
more_place true work rule place h = grind (arith, common_steps)
more_place false work rule place h = refl

more_length : (flag : Bool) (work : List ℕ) (rule : ℕ) → length work ≤ length (if flag then work ++ rule ∷ [] else work)
more_length true work rule = grind (arith, common_steps)
more_length false work rule = omega arith

equal_numbers : (a b : ℕ) → nat_eq a b ≡ true → a ≡ b
equal_numbers a b h = search (arith, h)

-- ---- the rules that are used

module _ (count : ℕ) where
  pub uses_keep : (cs : List (ℕ × ℕ)) (work : List ℕ) (v : ℕ) → is_among work v ≡ true → is_among (with_uses count work cs) v ≡ true
  uses_keep [] work v h = h
  uses_keep (c ∷ cs) work v h = uses_keep cs (with_rule count work c.0) v (more_keeps (nat_lt c.0 count && not (is_among work c.0)) work c.0 v h)

  pub uses_have : (cs : List (ℕ × ℕ)) (work : List ℕ) (v : ℕ) → Called cs v ≡ true → v < count → is_among (with_uses count work cs) v ≡ true
  uses_have [] work v h within = absurd (cc)
  uses_have (c ∷ cs) work v h within = elim (which (nat_eq c.0 v) (Called cs v) h) [
    | inl same ↦ (let e = equal_numbers c.0 v same in
        uses_keep cs (with_rule count work c.0) v (more_has (nat_lt c.0 count) (is_among work c.0) work c.0 v (ap (is_among work) (sym e)) (lt-ltb c.0 count (subst (λ (n : ℕ). n < count) (sym e) within)) same))
    | inr later ↦ uses_have cs (with_rule count work c.0) v later within
  ]

  pub uses_only : (cs : List (ℕ × ℕ)) (work : List ℕ) (v : ℕ) → is_among (with_uses count work cs) v ≡ true → (is_among work v ≡ true) ⊎ (Called cs v ≡ true)
  uses_only [] work v h = inl h
  uses_only (c ∷ cs) work v h = elim (uses_only cs (with_rule count work c.0) v h) [
    | inl k ↦ elim (more_only (nat_lt c.0 count && not (is_among work c.0)) work c.0 v k) [ inl m ↦ inl m | inr m ↦ inr (either_first (nat_eq c.0 v) (Called cs v) m) ]
    | inr k ↦ inr (either_second (nat_eq c.0 v) (Called cs v) k)
  ]

  pub uses_longer : (cs : List (ℕ × ℕ)) (work : List ℕ) → length work ≤ length (with_uses count work cs)
  uses_longer [] work = omega arith
  uses_longer (c ∷ cs) work = let h = more_length (nat_lt c.0 count && not (is_among work c.0)) work c.0 in let k = uses_longer cs (with_rule count work c.0) in omega (arith, h, k)

  pub uses_place : (cs : List (ℕ × ℕ)) (work : List ℕ) (place : ℕ) → place < length work → slice_index_or (with_uses count work cs) place 0 ≡ slice_index_or work place 0
  uses_place [] work place h = refl
  uses_place (c ∷ cs) work place h =
      let longer = more_length (nat_lt c.0 count && not (is_among work c.0)) work c.0 in
      uses_place cs (with_rule count work c.0) place (omega (arith, longer, h)) ∙ more_place (nat_lt c.0 count && not (is_among work c.0)) work c.0 place h

-- ---- the walk

-- where a rule stands in a list
record At (work : List ℕ) (rule : ℕ) : Type 0 where
  place : ℕ
  below : place < length work
  is : slice_index_or work place 0 ≡ rule

later : (u rule : ℕ) (work : List ℕ) → At work rule → At (u ∷ work) rule
later u rule work h = record { place = suc h.place; below = (let k = h.below in omega (arith, k)); is = h.is }

place_of : (work : List ℕ) (rule : ℕ) → is_among work rule ≡ true → At work rule
place_of [] rule h = absurd (cc)
place_of (u ∷ work) rule h = elim (which (nat_eq u rule) (is_among work rule) h) [
  | inl same ↦ record { place = 0; below = omega arith; is = equal_numbers u rule same }
  | inr more ↦ later u rule work (place_of work rule more)
]

module _ (bodies : List (List (ℕ × ℕ))) where
  longer_way : (way : List ℕ) (from via rule : ℕ) → walks bodies from (way ++ via ∷ []) ≡ true → is_used bodies via rule ≡ true → walks bodies from ((way ++ via ∷ []) ++ rule ∷ []) ≡ true
  longer_way [] from via rule h k = both (is_used bodies from via) (is_used bodies via rule && true) (first_of_both (is_used bodies from via) true h) (both (is_used bodies via rule) true k refl)
  longer_way (next ∷ way) from via rule h k = both (is_used bodies from next) (walks bodies next ((way ++ via ∷ []) ++ rule ∷ [])) (first_of_both (is_used bodies from next) (walks bodies next (way ++ via ∷ [])) h) (longer_way way next via rule (second_of_both (is_used bodies from next) (walks bodies next (way ++ via ∷ [])) h) k)

  further : (from via rule : ℕ) → Reaches bodies from via → is_used bodies via rule ≡ true → Reaches bodies from rule
  further from via rule r k = record { way = r.way ++ via ∷ []; walks = longer_way r.way from via rule r.walks k }

  walk_begins : (count from : ℕ) → count ≡ length bodies → IsWalked bodies from (with_uses count [] (calls_at bodies from)) 0
  walk_begins count from is = record {
    sound = λ rule h. elim (uses_only count (calls_at bodies from) [] rule h) [ inl k ↦ absurd (cc) | inr k ↦ record { way = []; walks = both (is_used bodies from rule) true k refl } ];
    started = λ rule h within. uses_have count (calls_at bodies from) [] rule h (subst (λ (n : ℕ). rule < n) (sym is) within);
    closed = λ place rule h. absurd (omega arith);
    within = omega arith;
  }

  pub begun : (count from : ℕ) (start work : List ℕ) (uses : List (ℕ × ℕ)) → work ≡ with_uses count start uses → start ≡ [] → uses ≡ calls_at bodies from → count ≡ length bodies → IsWalked bodies from work 0
  begun count from start work uses is none at all = rw (is, none, at) (walk_begins count from all)

  pub walk_goes_on : (count from via done : ℕ) (work : List ℕ) → count ≡ length bodies → IsWalked bodies from work done → done < length work → via ≡ slice_index_or work done 0
      → IsWalked bodies from (with_uses count work (calls_at bodies via)) (done + 1)
  walk_goes_on count from via done work is w more at =
      let among : is_among work via ≡ true = list_any_at (λ u. nat_eq u via) work done 0 more (search (arith, at)) in
      record {
        sound = λ rule h. elim (uses_only count (calls_at bodies via) work rule h) [ inl k ↦ w.sound rule k | inr k ↦ further from via rule (w.sound via among) k ];
        started = λ rule h within. uses_keep count (calls_at bodies via) work rule (w.started rule h within);
        closed = λ place rule h k within. elim (nat_lt place done) as (λ b. nat_lt place done ≡ b → is_among (with_uses count work (calls_at bodies via)) rule ≡ true) [
          | true ↦ (λ below. let before = ltb-true place done below in uses_keep count (calls_at bodies via) work rule
              (w.closed place rule before (subst (λ (u : ℕ). is_used bodies u rule ≡ true) (uses_place count (calls_at bodies via) work place (omega (arith, before, more))) k) within))
          | false ↦ (λ last. let same : place ≡ done = grind (arith, last, h) in
              let u : slice_index_or (with_uses count work (calls_at bodies via)) place 0 ≡ via = uses_place count (calls_at bodies via) work place (omega (arith, same, more)) ∙ (ap (λ (n : ℕ). slice_index_or work n 0) same ∙ sym at) in
              uses_have count (calls_at bodies via) work rule (subst (λ (n : ℕ). is_used bodies n rule ≡ true) u k) (subst (λ (n : ℕ). rule < n) (sym is) within))
        ] refl;
        within = let longer = uses_longer count (calls_at bodies via) work in omega (arith, longer, more);
      }

  pub gone_on : (count from via done : ℕ) (old work : List ℕ) (uses : List (ℕ × ℕ)) → work ≡ with_uses count old uses → uses ≡ calls_at bodies via → count ≡ length bodies → IsWalked bodies from old done → done < length old
      → via ≡ slice_index_or old done 0 → IsWalked bodies from work (done + 1)
  gone_on count from via done old work uses is at all w more via_is = rw (is, at) (walk_goes_on count from via done old all w more via_is)

  -- ---- what is not found is not reached

  nothing_used : (via rule : ℕ) → length bodies ≤ via → is_used bodies via rule ≡ false
  nothing_used via rule past = ap (λ (o : Option (List (ℕ × ℕ))). list_any (λ c. nat_eq c.0 rule) (or_empty o)) (slice_get_past bodies via past)

  module _ (from : ℕ) (work : List ℕ) (w : IsWalked bodies from work (length work)) where
    -- what the rule uses is found
    abbrev IsOpen : ℕ → Type 0
    IsOpen via = (rule : ℕ) → is_used bodies via rule ≡ true → rule < length bodies → is_among work rule ≡ true

    is_open : (via : ℕ) → is_among work via ≡ true → IsOpen via
    is_open via found = let P = place_of work via found in λ rule k within.
        w.closed P.place rule P.below (subst (λ (u : ℕ). is_used bodies u rule ≡ true) (sym P.is) k) within

    open_or_past : (via : ℕ) (below : Bool) → nat_lt via (length bodies) ≡ below → (via < length bodies → is_among work via ≡ true) → IsOpen via
    open_or_past via true is found = is_open via (found (ltb-true via (length bodies) is))
    open_or_past via false is found = λ rule k within. absurd (let past : length bodies ≤ via = grind (arith, is) in let none = nothing_used via rule past in cc)

    all_found : (way : List ℕ) (via rule : ℕ) → IsOpen via → rule < length bodies → walks bodies via (way ++ rule ∷ []) ≡ true → is_among work rule ≡ true
    all_found [] via rule opens within h = opens rule (first_of_both (is_used bodies via rule) true h) within
    all_found (next ∷ way) via rule opens within h =
        all_found way next rule (open_or_past next (nat_lt next (length bodies)) refl (opens next (first_of_both (is_used bodies via next) (walks bodies next (way ++ rule ∷ [])) h))) within
        (second_of_both (is_used bodies via next) (walks bodies next (way ++ rule ∷ [])) h)

    pub found_exactly : (found : Bool) → from < length bodies → is_among work from ≡ found → ReachesItself bodies from found
    found_exactly true within is = w.sound from is
    found_exactly false within is = λ way. not_true (walks bodies from (way ++ from ∷ [])) (λ h. let k = all_found way from from (λ rule. w.started rule) within h in cc)

-- ---- the same of kernels

body_is : (o : Option SubstRule) → or_empty (option_map (λ r. listed calls r.body) o) ≡ body_calls o
body_is None = refl
body_is (Some r) = refl

pub calls_in : (rules : List SubstRule) (rule : ℕ) → calls_at (calls_of rules) rule ≡ body_calls (slice_get rules rule)
calls_in rules rule = ap or_empty (slice_get-map (λ r. listed calls r.body) rules rule) ∙ body_is (slice_get rules rule)

pub along_is : (K : Kernel) (way : List ℕ) (rule : ℕ) → calls_along K rule way ≡ walks (calls_of K.rules) rule way
along_is K [] rule = refl
along_is K (next ∷ way) rule =
    ap (λ (cs : List (ℕ × ℕ)). list_any (λ c. nat_eq c.0 next) cs && calls_along K next way) (sym (calls_in K.rules rule))
    ∙ ap (λ (b : Bool). is_used (calls_of K.rules) rule next && b) (along_is K way next)

way_past : (bodies : List (List (ℕ × ℕ))) (way : List ℕ) (rule : ℕ) → length bodies ≤ rule → walks bodies rule (way ++ rule ∷ []) ≡ false
way_past bodies [] rule past = ap (λ (b : Bool). b && true) (nothing_used bodies rule rule past)
way_past bodies (next ∷ way) rule past = ap (λ (b : Bool). b && walks bodies next (way ++ rule ∷ [])) (nothing_used bodies rule next past)

-- no rule below the count reaches itself, and there are no others
pub no_cycle : (K : Kernel) (bodies : List (List (ℕ × ℕ))) (count : ℕ) → bodies ≡ calls_of K.rules → length bodies ≤ count
    → ((earlier : ℕ) (round : List ℕ) → earlier < count → walks bodies earlier (round ++ earlier ∷ []) ≡ false) → HasNoRuleCycle K
no_cycle K bodies count is all none rule way =
    along_is K (way ++ rule ∷ []) rule
    ∙ (ap (λ (bs : List (List (ℕ × ℕ))). walks bs rule (way ++ rule ∷ [])) (sym is)
    ∙ elim (nat_lt rule count) as (λ b. nat_lt rule count ≡ b → walks bodies rule (way ++ rule ∷ []) ≡ false) [
      | true ↦ (λ below. none rule way (ltb-true rule count below))
      | false ↦ (λ past. way_past bodies way rule (grind (arith, past, all)))
    ] refl)

pub first_cycle : (K : Kernel) (bodies : List (List (ℕ × ℕ))) (rule : ℕ) → bodies ≡ calls_of K.rules
    → ((earlier : ℕ) (round : List ℕ) → earlier < rule → walks bodies earlier (round ++ earlier ∷ []) ≡ false) → Reaches bodies rule rule → IsFirstCycle K rule
first_cycle K bodies rule is none r = record {
  way = r.way;
  reaches = along_is K (r.way ++ rule ∷ []) rule ∙ (ap (λ (bs : List (List (ℕ × ℕ))). walks bs rule (r.way ++ rule ∷ [])) (sym is) ∙ r.walks);
  first = λ earlier round h. along_is K (round ++ earlier ∷ []) earlier ∙ (ap (λ (bs : List (List (ℕ × ℕ))). walks bs earlier (round ++ earlier ∷ [])) (sym is) ∙ none earlier round h);
}
