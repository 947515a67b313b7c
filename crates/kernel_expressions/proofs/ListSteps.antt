-- Lists that are read item by item.
use Rattle.std.proofs.Common.{◌≡◌, Result, Ok, Err, Option, false, ◌≤◌, ◌+◌, ℕ, List, [], ◌∷◌, ◌++◌, map, length, ap, sym, refl, ◌∙◌, subst, append_assoc}
use Rattle.std.proofs.lemmas.List.{map-append}
use Rattle.std.specs.Result.{IfOk}
use Rattle.kernel_expressions.specs.declared.stop.Stop.{Stop}
use Rattle.kernel_grammar.specs.Lexicals.{Lexical, word, number, number_in, listed, mark}
use Rattle.kernel_grammar.specs.Words.{Name, words_of, is_reserved}
use Rattle.kernel_grammar.specs.Spelling.{name_text, sum_text, sums_text}
use Rattle.kernel_grammar.specs.Steps.{sum_steps, sums_steps}
use Rattle.kernel_grammar.specs.Lines.{numbers_text}
use Rattle.kernel_grammar.specs.declared.step.Step.{Step}
use Rattle.kernel_grammar.specs.Trees.{Sum, Sums, one as one_sum, first, bare, names}
use Rattle.kernel_expressions.specs.Turns.{InParens, IsOver, AreInames}
use Rattle.kernel_expressions.specs.Reads.{Next, Reads, IsItem, IsList, IsNamesBefore, IsNumbers, word_of, digits_text, bracketed}
use Rattle.kernel_expressions.proofs.Join.{around, and_token, token_and, as_well, one, nothing}

listed-push : (separator : Lexical) (t : List Lexical) (ts : List (List Lexical)) (u : List Lexical) → listed separator ((t ∷ ts) ++ u ∷ []) ≡ listed separator (t ∷ ts) ++ separator ∷ u
listed-push separator t [] u = refl
listed-push separator t (s ∷ ts) u = ap (λ (xs : List Lexical). t ++ separator ∷ xs) (listed-push separator s ts u) ∙ sym (append_assoc t (separator ∷ listed separator (s ∷ ts)) (separator ∷ u))

pub list_one : (S : Type 0) {X T : Type 0} (spell : X → List Lexical) (mean : X → T) (separator : Lexical) (v : T) (t : List Lexical) → IsItem S spell mean v t → IsList S spell mean separator (v ∷ []) t
list_one S spell mean separator v t h = record {
  first = h.tree;
  more = [];
  spelled = h.spelled;
  means = λ s. ap (λ w. w ∷ []) (h.means s);
}

push_item : (S : Type 0) {X T : Type 0} (spell : X → List Lexical) (mean : X → T) (separator : Lexical) (vs : List T) (v : T) (t u : List Lexical)
    → IsList S spell mean separator vs t → IsItem S spell mean v u → IsList S spell mean separator (vs ++ v ∷ []) (t ++ separator ∷ u)
push_item S spell mean separator vs v t u h k = record {
  first = h.first;
  more = h.more ++ k.tree ∷ [];
  spelled = ap (listed separator) (map-append spell (h.first ∷ h.more) (k.tree ∷ [])) ∙ listed-push separator (spell h.first) (map spell h.more) (spell k.tree)
      ∙ ap (λ xs. xs ++ separator ∷ spell k.tree) h.spelled ∙ ap (λ xs. t ++ separator ∷ xs) k.spelled;
  means = λ s. map-append mean (h.first ∷ h.more) (k.tree ∷ []) ∙ ap (λ ws. ws ++ mean k.tree ∷ []) (h.means s) ∙ ap (λ w. vs ++ w ∷ []) (k.means s);
}

pub list_more : (S : Type 0) {X T : Type 0} (spell : X → List Lexical) (mean : X → T) (separator : Lexical) (vs : List T) (v : T) (all : List Lexical) (a b c : ℕ)
    → Reads all a b (IsList S spell mean separator vs) → Next all b separator → Reads all (b + 1) c (IsItem S spell mean v) → Reads all a c (IsList S spell mean separator (vs ++ v ∷ []))
list_more S spell mean separator vs v all a b c h n k = around all a b c separator (IsList S spell mean separator vs) (IsItem S spell mean v) (IsList S spell mean separator (vs ++ v ∷ [])) h n k
    (push_item S spell mean separator vs v)

pub words : (list : List Name) → map word_of list ≡ words_of list
words [] = refl
words (name ∷ list) = ap (λ ws. name.word ∷ ws) (words list)

pub names_before : (S : Type 0) (close : Lexical) (separator : Lexical) (names : List (List ℕ)) (t : List Lexical) → separator ≡ mark "," → IsList S name_text word_of separator names t → IsNamesBefore S close names (t ++ close ∷ [])
names_before S close separator list t e h = record {
  tree = h.first ∷ h.more;
  spelled = ap (λ xs. xs ++ close ∷ []) (ap (λ s. listed s (map name_text (h.first ∷ h.more))) (sym e) ∙ h.spelled);
  means = λ s. sym (words (h.first ∷ h.more)) ∙ h.means s;
}

-- a token behind a text, at an equal place
pub ended : (all : List Lexical) (a b c : ℕ) (x : Lexical) (P R : List Lexical → Type 0) → Reads all a b P → c ≡ b + 1 → Next all b x → ((t : List Lexical) → P t → R (t ++ x ∷ [])) → Reads all a c R
ended all a b c x P R h e n made = subst (λ (d : ℕ). Reads all a d R) (sym e) (and_token all a b x P R h n made)

-- a token before a text, from an equal place
pub begun : (all : List Lexical) (a b c : ℕ) (x : Lexical) (Q R : List Lexical → Type 0) → b ≡ a + 1 → Next all a x → Reads all b c Q → ((u : List Lexical) → Q u → R (x ∷ u)) → Reads all a c R
begun all a b c x Q R e n h made = token_and all a c x Q R n (subst (λ (d : ℕ). Reads all d c Q) e h) made

-- one token
pub lone : (all : List Lexical) (a b : ℕ) (x : Lexical) (R : List Lexical → Type 0) → b ≡ a + 1 → Next all a x → R (x ∷ []) → Reads all a b R
lone all a b x R e n is = subst (λ (d : ℕ). Reads all a d R) (sym e) (as_well all a (a + 1) (λ t. t ≡ x ∷ []) R (one all a x n) (λ t q. subst R (sym q) is))

-- the sign between may be written in two ways
pub list_on : (S : Type 0) {X T : Type 0} (spell : X → List Lexical) (mean : X → T) (separator : Lexical) (vs : List T) (v : T) (ws : List T) (all : List Lexical) (a b c d : ℕ)
    → ws ≡ vs ++ v ∷ [] → Reads all a b (IsList S spell mean separator vs) → c ≡ b + 1 → Next all b separator → Reads all c d (IsItem S spell mean v) → Reads all a d (IsList S spell mean separator ws)
list_on S {T = T} spell mean separator vs v ws all a b c d w h e n k = subst (λ (xs : List T). Reads all a d (IsList S spell mean separator xs)) (sym w) (list_more S spell mean separator vs v all a b d h n (subst (λ (f : ℕ). Reads all f d (IsItem S spell mean v)) e k))

pub list_first : (S : Type 0) {X T : Type 0} (spell : X → List Lexical) (mean : X → T) (separator : Lexical) (v : T) (ws : List T) (all : List Lexical) (a b : ℕ) → ws ≡ v ∷ [] → Reads all a b (IsItem S spell mean v) → Reads all a b (IsList S spell mean separator ws)
list_first S {T = T} spell mean separator v ws all a b e h = subst (λ (xs : List T). Reads all a b (IsList S spell mean separator xs)) (sym e) (as_well all a b (IsItem S spell mean v) (IsList S spell mean separator (v ∷ [])) h (list_one S spell mean separator v))

-- a name
pub a_name : (S : Type 0) (w n : List ℕ) (all : List Lexical) (at : ℕ) → is_reserved w ≡ false → n ≡ w → Next all at (word w) → Reads all at (at + 1) (IsItem S name_text word_of n)
a_name S w n all at free e h = lone all at (at + 1) (word w) (IsItem S name_text word_of n) refl h (record { tree = record { word = w; free = free }; spelled = refl; means = λ s. sym e })

-- names in parentheses
pub in_parens : (S : Type 0) (list : List (List ℕ)) (all : List Lexical) (at a b c : ℕ) → a ≡ at + 1 → Next all at (mark "(") → Reads all a b (IsList S name_text word_of (mark ",") list) → c ≡ b + 1 → Next all b (mark ")")
    → Reads all at c (InParens S list)
in_parens S list all at a b c e n h f p = begun all at a c (mark "(") (λ t. (o : List Lexical) × IsList S name_text word_of (mark ",") list o × (t ≡ o ++ mark ")" ∷ [])) (InParens S list) e n
    (ended all a b c (mark ")") (IsList S name_text word_of (mark ",") list) (λ t. (o : List Lexical) × IsList S name_text word_of (mark ",") list o × (t ≡ o ++ mark ")" ∷ [])) h f p (λ o i. (o, i, refl)))
    (λ u i. record { first = i.1.first; more = i.1.more; spelled = ap (λ xs. mark "(" ∷ xs ++ mark ")" ∷ []) i.1.spelled ∙ ap (λ xs. mark "(" ∷ xs) (sym i.2); means = λ s. sym (words (i.1.first ∷ i.1.more)) ∙ i.1.means s })

pub over_names : (S : Type 0) (names : List (List ℕ)) (all : List Lexical) (at c : ℕ) → Reads all at c (InParens S names) → Reads all at c (IsOver S names)
over_names S list all at c h = as_well all at c (InParens S list) (IsOver S list) h (λ t i. record { tree = names i.first i.more; spelled = i.spelled; means = i.means })

pub over_names_if : (S : Type 0) (all : List Lexical) (at : ℕ) (r : Result (List (List ℕ) × ℕ) Stop) → IfOk r (λ read. Reads all at read.1 (InParens S read.0)) → IfOk r (λ read. Reads all at read.1 (IsOver S read.0))
over_names_if S all at (Ok read) h = over_names S read.0 all at read.1 h
over_names_if S all at (Err e) h = tt

pub over_name : (S : Type 0) (w : List ℕ) (list : List (List ℕ)) (all : List Lexical) (at a : ℕ) → list ≡ w ∷ [] → Reads all at a (IsItem S name_text word_of w) → Reads all at a (IsOver S list)
over_name S w list all at a e h = as_well all at a (IsItem S name_text word_of w) (IsOver S list) h
    (λ t i. record { tree = bare i.tree; spelled = i.spelled; means = λ s. ap (λ (v : List ℕ). v ∷ []) (i.means s) ∙ sym e })

pub inames_read : (S : Type 0) (names : List (List ℕ)) (all : List Lexical) (at c d : ℕ) → Reads all at c (InParens S names) → d ≡ c + 1 → Next all c (mark ",") → Reads all at d (AreInames S names)
inames_read S list all at c d h g q = ended all at c d (mark ",") (InParens S list) (AreInames S list) h g q (λ t i. record { tree = (i.first, i.more); spelled = ap (λ xs. xs ++ mark "," ∷ []) i.spelled; means = i.means })

-- sums from a list of them
pub sums_of : Sum → List Sum → Sums
sums_of a [] = one_sum a
sums_of a (b ∷ more) = first a (sums_of b more)

pub sums_spelled : (a : Sum) (more : List Sum) → sums_text (sums_of a more) ≡ listed (mark ",") (map sum_text (a ∷ more))
unfolding sums_of
sums_spelled a [] = refl
sums_spelled a (b ∷ more) = ap (λ xs. sum_text a ++ mark "," ∷ xs) (sums_spelled b more)

sums_mean : (a : Sum) (more : List Sum) → sums_steps (sums_of a more) ≡ map sum_steps (a ∷ more)
unfolding sums_of
sums_mean a [] = refl
sums_mean a (b ∷ more) = ap (λ xs. sum_steps a ∷ xs) (sums_mean b more)

pub sums_whole : (S : Type 0) (values : List (List Step)) (all : List Lexical) (at next : ℕ) → Reads all at next (IsList S sum_text sum_steps (mark ",") values) → Reads all at next (IsItem S sums_text sums_steps values)
sums_whole S values all at next h = as_well all at next (IsList S sum_text sum_steps (mark ",") values) (IsItem S sums_text sums_steps values) h
    (λ t i. record { tree = sums_of i.first i.more; spelled = sums_spelled i.first i.more ∙ i.spelled; means = λ s. sums_mean i.first i.more ∙ i.means s })

pub in_brackets_read : (S : Type 0) (values : List (List Step)) (all : List Lexical) (at a b c : ℕ) → a ≡ at + 1 → Next all at (mark "[") → Reads all a b (IsItem S sums_text sums_steps values) → c ≡ b + 1 → Next all b (mark "]")
    → Reads all at c (IsItem S bracketed sums_steps values)
in_brackets_read S values all at a b c e n h f p = begun all at a c (mark "[") (λ t. (o : List Lexical) × IsItem S sums_text sums_steps values o × (t ≡ o ++ mark "]" ∷ [])) (IsItem S bracketed sums_steps values) e n
    (ended all a b c (mark "]") (IsItem S sums_text sums_steps values) (λ t. (o : List Lexical) × IsItem S sums_text sums_steps values o × (t ≡ o ++ mark "]" ∷ [])) h f p (λ o i. (o, i, refl)))
    (λ u i. record { tree = i.1.tree; spelled = ap (λ xs. mark "[" ∷ xs ++ mark "]" ∷ []) i.1.spelled ∙ ap (λ xs. mark "[" ∷ xs) (sym i.2); means = i.1.means })

-- numbers
pub numbers_first : (S : Type 0) (n : Option ℕ) (ns : List (Option ℕ)) (d : List ℕ) (all : List Lexical) (at a b : ℕ) → ns ≡ n ∷ [] → a ≡ at + 1 → Next all at (mark "[") → b ≡ a + 1 → Next all a (number d) → n ≡ number_in d → Reads all at b (IsNumbers S ns)
numbers_first S n ns d all at a b w e p f q v = begun all at a b (mark "[") (λ t. t ≡ number d ∷ []) (IsNumbers S ns) e p (lone all a b (number d) (λ t. t ≡ number d ∷ []) f q refl)
    (λ u i. record { front = u; spelled = refl; list = record { first = d; more = []; spelled = sym i; means = λ s. ap (λ (m : Option ℕ). m ∷ []) (sym v) ∙ sym w } })

pub numbers_on : (S : Type 0) (n : Option ℕ) (ns new : List (Option ℕ)) (d : List ℕ) (all : List Lexical) (at b c e : ℕ) → new ≡ ns ++ n ∷ [] → Reads all at b (IsNumbers S ns) → c ≡ b + 1 → Next all b (mark ",") → e ≡ c + 1 → Next all c (number d) → n ≡ number_in d → Reads all at e (IsNumbers S new)
numbers_on S n ns new d all at b c e w h f p g q v = subst (λ (xs : List (Option ℕ)). Reads all at e (IsNumbers S xs)) (sym w) (around all at b e (mark ",") (IsNumbers S ns) (λ t. t ≡ number d ∷ []) (IsNumbers S (ns ++ n ∷ [])) h p
    (subst (λ (m : ℕ). Reads all m e (λ t. t ≡ number d ∷ [])) f (lone all c e (number d) (λ t. t ≡ number d ∷ []) g q refl))
    (λ t u i j. record {
      front = i.front ++ mark "," ∷ u;
      spelled = ap (λ xs. xs ++ mark "," ∷ u) i.spelled;
      list = push_item S digits_text number_in (mark ",") ns n i.front u i.list (record { tree = d; spelled = sym j; means = λ s. sym v });
    }))

pub numbers_whole : (S : Type 0) (ns : List (Option ℕ)) (all : List Lexical) (at b c : ℕ) → Reads all at b (IsNumbers S ns) → c ≡ b + 1 → Next all b (mark "]") → Reads all at c (IsItem S numbers_text (map number_in) ns)
numbers_whole S ns all at b c h f p = ended all at b c (mark "]") (IsNumbers S ns) (IsItem S numbers_text (map number_in) ns) h f p
    (λ t i. record { tree = i.list.first ∷ i.list.more; spelled = ap (λ xs. mark "[" ∷ xs ++ mark "]" ∷ []) i.list.spelled ∙ ap (λ xs. xs ++ mark "]" ∷ []) (sym i.spelled); means = i.list.means })

pub numbers_none : (S : Type 0) (ns : List (Option ℕ)) (all : List Lexical) (at : ℕ) → ns ≡ [] → at ≤ length all → Reads all at at (IsItem S numbers_text (map number_in) ns)
numbers_none S ns all at e within = nothing all at (IsItem S numbers_text (map number_in) ns) within (record { tree = []; spelled = refl; means = λ s. sym e })
