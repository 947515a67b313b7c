-- What parts begin with, and operands without parts.
use Rattle.std.proofs.Common.{◌≡◌, ◌+◌, ℕ, Option, Bool, true, false, List, [], ◌∷◌, ◌++◌, length, length-append, ap, sym, refl, ◌∙◌, subst, append_assoc, arith}
use Rattle.kernel_grammar.specs.declared.step.Extreme.{Extreme}
use Rattle.kernel_grammar.specs.declared.step.Infix.TheVariants as infixed
use Rattle.kernel_grammar.specs.declared.step.Folding.TheVariants as folding
use Rattle.kernel_grammar.specs.declared.step.Prefix.{Prefix}
use Rattle.kernel_grammar.specs.declared.step.Step.{Step}
use Rattle.kernel_grammar.specs.declared.step.Step.TheVariants as step
use Rattle.wrap_words.specs.declared.kind.Kind.{Kind}
use Rattle.kernel_grammar.specs.Lexicals.{Lexical, word, number, number_in, key, mark}
use Rattle.kernel_grammar.specs.Words.{Name, words_of, is_reserved}
use Rattle.kind_faults.specs.Words.{kind_word}
use Rattle.kernel_grammar.specs.Trees.{Or, or_of, and_of, not_of, cmp_of, bor_of, bxor_of, band_of, shift_of, sum_of, prod_of, unary_of, Sums, Atom, digits, multiple, named, indexed, called, called_at, sum, product, extreme, extreme_over, cast, choice, grouped}
use Rattle.kernel_grammar.specs.Spelling.{extreme_text, name_text, names_text, in_parentheses, of_two, of_three, or_text, sums_text, atom_text}
use Rattle.kernel_grammar.specs.Steps.{joined, or_steps, sums_steps, atom_steps}
use Rattle.kernel_expressions.specs.declared.frame.Bracket as bracket
use Rattle.kernel_expressions.specs.declared.frame.Bracket.TheVariants.{Index, Call}
use Rattle.kernel_expressions.specs.declared.frame.Frame.TheVariants as frame
use Rattle.kernel_expressions.specs.Reads.{Next, Reads, IsItem, word_of}
use Rattle.kernel_expressions.specs.Levels.{prefix_level, Tree}
use Rattle.kernel_expressions.specs.Frames.{place_step, closing, Operates, Closes, HasPlaces, BeginsExtreme, Part}
use Rattle.kernel_expressions.specs.Turns.{fold_text, folding_of, IsOver, inames_text, AreInames}
use Rattle.kernel_expressions.proofs.Join.{and_token, token_and, as_well}
use Rattle.kernel_expressions.proofs.Trees.{an_atom, groups, operates_before, prefix_text}
use Rattle.kernel_expressions.proofs.ListSteps.{lone, begun, ended}

pub part_group : (S : Type 0) (all : List Lexical) (at : ℕ) → Next all at (mark "(") → Reads all at (at + 1) (Part S frame.Group [])
part_group S all at n = lone all at (at + 1) (mark "(") (Closes S [] []) refl n (groups S)

pub part_prefix : (S : Type 0) (all : List Lexical) (at : ℕ) (op : Prefix) → Next all at (prefix_text op) → Reads all at (at + 1) (Part S (frame.Prefix op) [])
part_prefix S all at op n = lone all at (at + 1) (prefix_text op) (Operates S (prefix_level op) (prefix_level op) (step.Prefix op ∷ []) []) refl n (operates_before S op)

-- the sign before places
abbrev pub opening : bracket.Bracket → Lexical
opening Index = mark "["
opening Call = mark "("

places_end : (S : Type 0) (name : List ℕ) (b : bracket.Bracket) (t : List Lexical) → IsItem S name_text word_of name t → (rest : Sums) (steps : List Step) → (S → joined (sums_steps rest) ≡ steps)
    → Tree S 11 ([] ++ steps ++ place_step b name (0 + length (sums_steps rest)) ∷ []) ((t ++ opening b ∷ []) ++ sums_text rest ++ closing b ∷ [])
places_end S name Index t h rest steps e = an_atom S (indexed h.tree rest) _ _ (ap (λ xs. (xs ++ mark "[" ∷ []) ++ sums_text rest ++ mark "]" ∷ []) h.spelled)
    (λ s. ap (λ xs. xs ++ step.Index h.tree.word (length (sums_steps rest)) ∷ []) (e s) ∙ ap (λ (w : List ℕ). steps ++ step.Index w (length (sums_steps rest)) ∷ []) (h.means s)
    ∙ ap (λ (n : ℕ). steps ++ step.Index name n ∷ []) (let z : length (sums_steps rest) ≡ 0 + length (sums_steps rest) = omega arith in z))
places_end S name Call t h rest steps e = an_atom S (called_at h.tree rest) _ _ (ap (λ xs. (xs ++ mark "(" ∷ []) ++ sums_text rest ++ mark ")" ∷ []) h.spelled)
    (λ s. ap (λ xs. xs ++ step.Call h.tree.word (length (sums_steps rest)) ∷ []) (e s) ∙ ap (λ (w : List ℕ). steps ++ step.Call w (length (sums_steps rest)) ∷ []) (h.means s)
    ∙ ap (λ (n : ℕ). steps ++ step.Call name n ∷ []) (let z : length (sums_steps rest) ≡ 0 + length (sums_steps rest) = omega arith in z))

places_begin : (S : Type 0) (name : List ℕ) (b : bracket.Bracket) (t : List Lexical) → IsItem S name_text word_of name t → HasPlaces S name b 0 [] (t ++ opening b ∷ [])
places_begin S name b t h = record {
  counted = omega (arith, length-append t (opening b ∷ []));
  ends = places_end S name b t h;
}

pub part_places : (S : Type 0) (name : List ℕ) (b : bracket.Bracket) (all : List Lexical) (at mid next : ℕ) → Reads all at mid (IsItem S name_text word_of name) → next ≡ mid + 1 → Next all mid (opening b)
    → Reads all at next (Part S (frame.Places name b 0) [])
part_places S name b all at mid next h e n = ended all at mid next (opening b) (IsItem S name_text word_of name) (HasPlaces S name b 0 []) h e n (places_begin S name b)

-- a function up to its comma
pub closes_head : (S : Type 0) (k : Lexical) (o : List Lexical) (last : Step) (make : Or → Atom) → ((a : Or) → atom_text (make a) ≡ k ∷ of_two o (or_text a)) → ((a : Or) → S → atom_steps (make a) ≡ or_steps a ++ last ∷ [])
    → Closes S (last ∷ []) [] (k ∷ mark "(" ∷ (o ++ mark "," ∷ []))
closes_head S k o last make spells means = record {
  ends = λ steps t h. an_atom S (make h.tree) _ _ (spells h.tree ∙ ap (λ xs. k ∷ of_two o xs) h.spelled ∙ ap (λ xs. k ∷ mark "(" ∷ (xs ++ mark ")" ∷ [])) (sym (append_assoc o (mark "," ∷ []) t)))
      (λ s. means h.tree s ∙ ap (λ xs. xs ++ last ∷ []) (h.means s));
}

pub fold_head : (S : Type 0) (is_sum : Bool) (inames : List (List ℕ)) (o : List Lexical) → IsOver S inames o → Closes S (step.Fold (folding_of is_sum) inames ∷ []) [] (fold_text is_sum ∷ mark "(" ∷ (o ++ mark "," ∷ []))
fold_head S true inames o h = closes_head S (key "sum") o (step.Fold folding.Sum inames) (λ a. sum h.tree a) (λ a. ap (λ xs. key "sum" ∷ of_two xs (or_text a)) h.spelled)
    (λ a s. ap (λ (ws : List (List ℕ)). or_steps a ++ step.Fold folding.Sum ws ∷ []) (h.means s))
fold_head S false inames o h = closes_head S (key "product") o (step.Fold folding.Product inames) (λ a. product h.tree a) (λ a. ap (λ xs. key "product" ∷ of_two xs (or_text a)) h.spelled)
    (λ a s. ap (λ (ws : List (List ℕ)). or_steps a ++ step.Fold folding.Product ws ∷ []) (h.means s))

pub part_fold : (S : Type 0) (is_sum : Bool) (inames : List (List ℕ)) (all : List Lexical) (at a b c : ℕ) → Next all at (fold_text is_sum) → a ≡ (at + 1) + 1 → Next all (at + 1) (mark "(") → Reads all a b (IsOver S inames) → c ≡ b + 1 → Next all b (mark ",")
    → Reads all at c (Closes S (step.Fold (folding_of is_sum) inames ∷ []) [])
part_fold S is_sum inames all at a b c n e p h f q = token_and all at c (fold_text is_sum) (λ t. (o : List Lexical) × IsOver S inames o × (t ≡ mark "(" ∷ (o ++ mark "," ∷ []))) (Closes S (step.Fold (folding_of is_sum) inames ∷ []) []) n
    (begun all (at + 1) a c (mark "(") (λ t. (o : List Lexical) × IsOver S inames o × (t ≡ o ++ mark "," ∷ [])) (λ t. (o : List Lexical) × IsOver S inames o × (t ≡ mark "(" ∷ (o ++ mark "," ∷ []))) e p
    (ended all a b c (mark ",") (IsOver S inames) (λ t. (o : List Lexical) × IsOver S inames o × (t ≡ o ++ mark "," ∷ [])) h f q (λ o i. (o, i, refl)))
    (λ u i. (i.0, i.1, ap (λ xs. mark "(" ∷ xs) i.2)))
    (λ u i. subst (λ (xs : List Lexical). Closes S (step.Fold (folding_of is_sum) inames ∷ []) [] (fold_text is_sum ∷ xs)) (sym i.2) (fold_head S is_sum inames i.0 i.1))

-- a name in parentheses
in_group : Name → Or
in_group name = or_of (and_of (not_of (cmp_of (bor_of (bxor_of (band_of (shift_of (sum_of (prod_of (unary_of (grouped (or_of (and_of (not_of (cmp_of (bor_of (bxor_of (band_of (shift_of (sum_of (prod_of (unary_of (named name)))))))))))))))))))))))

pub extreme_head : (S : Type 0) (which : Extreme) (inames : List (List ℕ)) (list : Name × List Name) (u : List Lexical) → inames_text list ≡ u → (S → words_of (list.0 ∷ list.1) ≡ inames) → Closes S (step.Fold (folding.Extreme which) inames ∷ []) [] (extreme_text which ∷ mark "(" ∷ u)
unfolding in_group
extreme_head S which inames (name, []) u e means = subst (λ (xs : List Lexical). Closes S (step.Fold (folding.Extreme which) inames ∷ []) [] (extreme_text which ∷ mark "(" ∷ xs)) e
    (closes_head S (extreme_text which) (in_parentheses (name_text name)) (step.Fold (folding.Extreme which) inames) (λ a. extreme which (in_group name) a) (λ a. refl)
    (λ a s. ap (λ (ws : List (List ℕ)). or_steps a ++ step.Fold (folding.Extreme which) ws ∷ []) (means s)))
extreme_head S which inames (name, other ∷ more) u e means = subst (λ (xs : List Lexical). Closes S (step.Fold (folding.Extreme which) inames ∷ []) [] (extreme_text which ∷ mark "(" ∷ xs)) e
    (closes_head S (extreme_text which) (in_parentheses (names_text (name ∷ other ∷ more))) (step.Fold (folding.Extreme which) inames) (λ a. extreme_over which name other more a) (λ a. refl)
    (λ a s. ap (λ (ws : List (List ℕ)). or_steps a ++ step.Fold (folding.Extreme which) ws ∷ []) (means s)))

pub part_extreme : (S : Type 0) (which : Extreme) (inames : List (List ℕ)) (all : List Lexical) (at a b : ℕ) → Next all at (extreme_text which) → a ≡ (at + 1) + 1 → Next all (at + 1) (mark "(") → Reads all a b (AreInames S inames)
    → Reads all at b (Closes S (step.Fold (folding.Extreme which) inames ∷ []) [])
part_extreme S which inames all at a b n e p h = token_and all at b (extreme_text which) (λ t. (o : List Lexical) × AreInames S inames o × (t ≡ mark "(" ∷ o)) (Closes S (step.Fold (folding.Extreme which) inames ∷ []) []) n
    (begun all (at + 1) a b (mark "(") (AreInames S inames) (λ t. (o : List Lexical) × AreInames S inames o × (t ≡ mark "(" ∷ o)) e p h (λ o i. (o, i, refl)))
    (λ u i. subst (λ (xs : List Lexical). Closes S (step.Fold (folding.Extreme which) inames ∷ []) [] (extreme_text which ∷ xs)) (sym i.2) (extreme_head S which inames i.1.tree i.0 i.1.spelled i.1.means))

pub part_first : (S : Type 0) (which : Extreme) (all : List Lexical) (at a : ℕ) → Next all at (extreme_text which) → a ≡ (at + 1) + 1 → Next all (at + 1) (mark "(") → Reads all at a (Part S (frame.First which a) [])
part_first S which all at a n e p = token_and all at a (extreme_text which) (λ t. t ≡ mark "(" ∷ []) (BeginsExtreme S which []) n (lone all (at + 1) a (mark "(") (λ t. t ≡ mark "(" ∷ []) e p refl)
    (λ u i. record { begins = ap (λ xs. extreme_text which ∷ xs) i; nothing = refl })

pub part_cast : (S : Type 0) (kind : Kind) (all : List Lexical) (at a b c : ℕ) → Next all at (key "cast") → a ≡ (at + 1) + 1 → Next all (at + 1) (mark "(") → b ≡ a + 1 → Next all a (word (kind_word kind)) → c ≡ b + 1 → Next all b (mark ",")
    → Reads all at c (Part S (frame.Body (step.Cast kind)) [])
part_cast S kind all at a b c n e p f k g q = token_and all at c (key "cast") (λ t. t ≡ mark "(" ∷ word (kind_word kind) ∷ mark "," ∷ []) (Closes S (step.Cast kind ∷ []) []) n
    (begun all (at + 1) a c (mark "(") (λ t. t ≡ word (kind_word kind) ∷ mark "," ∷ []) (λ t. t ≡ mark "(" ∷ word (kind_word kind) ∷ mark "," ∷ []) e p
    (begun all a b c (word (kind_word kind)) (λ t. t ≡ mark "," ∷ []) (λ t. t ≡ word (kind_word kind) ∷ mark "," ∷ []) f k (lone all b c (mark ",") (λ t. t ≡ mark "," ∷ []) g q refl) (λ u i. ap (λ xs. word (kind_word kind) ∷ xs) i))
    (λ u i. ap (λ xs. mark "(" ∷ xs) i))
    (λ u i. subst (λ (xs : List Lexical). Closes S (step.Cast kind ∷ []) [] (key "cast" ∷ xs)) (sym i)
    (closes_head S (key "cast") (word (kind_word kind) ∷ []) (step.Cast kind) (λ a. cast kind a) (λ a. refl) (λ a s. refl)))

three : (k p c e : Lexical) (t u v : List Lexical) → k ∷ p ∷ (t ++ c ∷ u ++ c ∷ v) ++ e ∷ [] ≡ ((((k ∷ p ∷ []) ++ t ++ c ∷ []) ++ u ++ c ∷ []) ++ v ++ e ∷ [])
three k p c e t u v = simp append_assoc

pub part_test : (S : Type 0) (all : List Lexical) (at a : ℕ) → Next all at (key "if") → a ≡ (at + 1) + 1 → Next all (at + 1) (mark "(") → Reads all at a (Part S frame.Test [])
part_test S all at a n e p = token_and all at a (key "if") (λ t. t ≡ mark "(" ∷ []) (Part S frame.Test []) n (lone all (at + 1) a (mark "(") (λ t. t ≡ mark "(" ∷ []) e p refl)
    (λ w i. subst (λ (xs : List Lexical). Part S frame.Test [] (key "if" ∷ xs)) (sym i)
    (record {
      on = λ x t hx. record {
        on = λ y u hy. record {
          ends = λ z v hz. an_atom S (choice hx.tree hy.tree hz.tree) _ _
              (ap (λ xs. key "if" ∷ of_three xs (or_text hy.tree) (or_text hz.tree)) hx.spelled ∙ ap (λ xs. key "if" ∷ of_three t xs (or_text hz.tree)) hy.spelled ∙ ap (λ xs. key "if" ∷ of_three t u xs) hz.spelled
              ∙ three (key "if") (mark "(") (mark ",") (mark ")") t u v)
              (λ s. ap (λ xs. xs ++ or_steps hy.tree ++ or_steps hz.tree ++ step.Choose ∷ []) (hx.means s) ∙ ap (λ xs. x ++ xs ++ or_steps hz.tree ++ step.Choose ∷ []) (hy.means s) ∙ ap (λ xs. x ++ y ++ xs ++ step.Choose ∷ []) (hz.means s));
        };
      };
    }))

-- operands without parts
pub a_number : (S : Type 0) (all : List Lexical) (at next : ℕ) (n : Option ℕ) (d : List ℕ) → next ≡ at + 1 → Next all at (number d) → n ≡ number_in d → Reads all at next (Tree S 11 (step.Number n ∷ []))
a_number S all at next n d p h e = lone all at next (number d) (Tree S 11 (step.Number n ∷ [])) p h (an_atom S (digits d) _ _ refl (λ s. ap (λ (v : Option ℕ). step.Number v ∷ []) (sym e)))

pub a_multiple : (S : Type 0) (all : List Lexical) (at mid : ℕ) (n : Option ℕ) (d w v : List ℕ) → v ≡ w → mid ≡ at + 1 → Next all at (number d) → n ≡ number_in d → Next all mid (word w) → is_reserved w ≡ false
    → Reads all at (mid + 1) (Tree S 11 (step.Number n ∷ step.Name v ∷ step.Infix infixed.Multiply ∷ []))
a_multiple S all at mid n d w v same p h e k free = subst (λ (x : List ℕ). Reads all at (mid + 1) (Tree S 11 (step.Number n ∷ step.Name x ∷ step.Infix infixed.Multiply ∷ []))) (sym same) (and_token all at mid (word w) (λ t. t ≡ number d ∷ []) (Tree S 11 (step.Number n ∷ step.Name w ∷ step.Infix infixed.Multiply ∷ [])) (lone all at mid (number d) (λ t. t ≡ number d ∷ []) p h refl) k
    (λ t i. an_atom S (multiple d (record { word = w; free = free })) _ _ (ap (λ xs. xs ++ word w ∷ []) (sym i)) (λ s. ap (λ (x : Option ℕ). step.Number x ∷ step.Name w ∷ step.Infix infixed.Multiply ∷ []) (sym e))))

pub a_lone_name : (S : Type 0) (all : List Lexical) (at next : ℕ) (w : List ℕ) → Reads all at next (IsItem S name_text word_of w) → Reads all at next (Tree S 11 (step.Name w ∷ []))
a_lone_name S all at next w h = as_well all at next (IsItem S name_text word_of w) (Tree S 11 (step.Name w ∷ [])) h
    (λ t i. an_atom S (named i.tree) _ _ i.spelled (λ s. ap (λ (v : List ℕ). step.Name v ∷ []) (i.means s)))

record IsCalled (S : Type 0) (w : List ℕ) (t : List Lexical) : Type 0 where
  name : Name
  spelled : word name.word ∷ mark "(" ∷ [] ≡ t
  means : S → name.word ≡ w

pub a_bare_call : (S : Type 0) (all : List Lexical) (at mid a b : ℕ) (w : List ℕ) → Reads all at mid (IsItem S name_text word_of w) → a ≡ mid + 1 → Next all mid (mark "(") → b ≡ a + 1 → Next all a (mark ")") → Reads all at b (Tree S 11 (step.Call w 0 ∷ []))
a_bare_call S all at mid a b w h e p f q = ended all at a b (mark ")") (λ t. IsCalled S w t) (Tree S 11 (step.Call w 0 ∷ []))
    (ended all at mid a (mark "(") (IsItem S name_text word_of w) (IsCalled S w) h e p (λ t i. record { name = i.tree; spelled = ap (λ xs. xs ++ mark "(" ∷ []) i.spelled; means = i.means })) f q
    (λ t i. an_atom S (called i.name) _ _ (ap (λ xs. xs ++ mark ")" ∷ []) i.spelled) (λ s. ap (λ (v : List ℕ). step.Call v 0 ∷ []) (i.means s)))
