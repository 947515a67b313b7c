-- Where the parts of instructions end, and why none stand there.
use Rattle.std.proofs.Common.{◌≡◌, ◌≤◌, ◌+◌, ℕ, Bool, true, false, not, ◌&&◌, ◌||◌, ◌⊎◌, inl, inr, bytes_eq, map, codes, List, [], ◌∷◌, ◌++◌, length, ap, sym, refl, ◌∙◌, subst, append_assoc, Option, Some, None}
use Rattle.std.proofs.lemmas.Slice.Eq.{bytes_eq-Decides}
use Rattle.wrap_words.specs.declared.kind.Kind.{Kind}
use Rattle.kind_faults.specs.Words.{kind_word}
use Rattle.kernel_grammar.specs.declared.item.Stored.{Stored}
use Rattle.kernel_grammar.specs.declared.item.Stored.TheVariants.{Plain, Update}
use Rattle.kernel_grammar.specs.declared.item.Declared.{Declared}
use Rattle.kernel_grammar.specs.declared.item.Declared.TheVariants.{Not as undeclared, Inferred, Of}
use Rattle.kernel_grammar.specs.declared.step.Extreme.{Extreme}
use Rattle.kernel_grammar.specs.declared.step.Extreme.TheVariants.{Min, Max}
use Rattle.kernel_grammar.specs.declared.step.Folding.TheVariants as folding
use Rattle.kernel_grammar.specs.Lexicals.{Lexical, word, number, sign, line_end, key, mark, listed}
use Rattle.kernel_grammar.specs.Words.{Name, is_reserved}
use Rattle.kernel_grammar.specs.declared.item.InsnOption as chosen
use Rattle.kernel_grammar.specs.Syntax.{option_of}
use Rattle.kernel_grammar.specs.Trees.{Sums}
use Rattle.kernel_grammar.specs.Spelling.{extreme_text, name_text, or_text}
use Rattle.kernel_grammar.specs.Lines.{InsnOption, id, dep, inames, condition, Insn, declared_text, place_text, stored_text, ids_text, star_text, option_text, options_text, insn_text}
use Rattle.kernel_expressions.specs.declared.stop.Stop.{Stop}
use Rattle.kernel_expressions.specs.Reads.{Next, Reads, IsItem, bracketed}
use Rattle.kernel_expressions.specs.Settled.{AnyRest, Behind, Ends, Halts, Spells, SpellsList, Stops, ends_level, is_mark}
use Rattle.kernel_syntax.specs.Behinds.{ends_dep, ends_ids, ends_option, is_line_end, is_other, is_word}
use Rattle.kernel_syntax.specs.Parts.{Is, condition_text, dep_text, id_text, inames_text}
use Rattle.kernel_syntax.proofs.Leads.{Heads, Leads, Then, Token, Tok, MayBegin, not_there, begins, first, absent, next_within, start, refined_tree, refused, opens, no_rest, head_is, not_head, tok_in, tok_out, any_in, any_out, then_in, a_spelling, next_same, IsNameToken, IsKindToken, both, weaker, some_name, spelled, more_text, Items, list_start, list_next, list_item, list_stops, list_done, Follows, an_or, tree_in, name_in, pasted, pasted_name, token_follows, tree_follows, follows_tree}

-- ---- how a cell is declared

-- what stands behind `<`
abbrev pub inner_text : Option Kind → List Lexical
inner_text None = mark ">" ∷ []
inner_text (Some kind) = word (kind_word kind) ∷ mark ">" ∷ []

may_declare : (d : Declared) → MayBegin (λ x. x ≡ mark "<") (declared_text d)
may_declare undeclared = not_there refl
may_declare Inferred = begins (mark "<") (mark ">" ∷ []) refl refl
may_declare (Of kind) = begins (mark "<") (word (kind_word kind) ∷ mark ">" ∷ []) refl refl

pub undeclared_ends : (all : List Lexical) (at : ℕ) → at ≤ length all → (Next all at (mark "<") → ⊥) → Ends all (Spells declared_text) (Behind (is_other (codes "<"))) at at
undeclared_ends all at within none = absent all declared_text (λ x. x ≡ mark "<") (Behind (is_other (codes "<"))) at undeclared refl may_declare within (λ x e n. none (subst (λ (y : Lexical). Next all at y) e n))

declared_tree : (all : List Lexical) (at : ℕ) → Next all at (mark "<") → (tree : Declared) (rest : List Lexical) → Heads all at (declared_text tree ++ rest) → Behind (is_other (codes "<")) rest → Tok (mark "<") (Spells inner_text) (declared_text tree)
declared_tree all at n undeclared rest h b = absurd (no_rest all at (mark "<") (is_other (codes "<")) rest h n b refl)
declared_tree all at n Inferred rest h b = tok_in (mark "<") (Spells inner_text) (inner_text None) (a_spelling inner_text None)
declared_tree all at n (Of kind) rest h b = tok_in (mark "<") (Spells inner_text) (inner_text (Some kind)) (a_spelling inner_text (Some kind))

inner_declares : (tree : Option Kind) (text : List Lexical) → mark "<" ∷ inner_text tree ≡ text → Spells declared_text text
inner_declares None text e = record { tree = Inferred; spelled = e }
inner_declares (Some kind) text e = record { tree = Of kind; spelled = e }

pub declared_opens : (all : List Lexical) (at : ℕ) → Next all at (mark "<") → Leads all (Spells declared_text) (Tok (mark "<") (Spells inner_text)) (Behind (is_other (codes "<"))) at at
declared_opens all at n = first all declared_text (Tok (mark "<") (Spells inner_text)) (Behind (is_other (codes "<"))) at (next_within all at (mark "<") n) (declared_tree all at n)
    (λ text h. let k = tok_out (mark "<") (Spells inner_text) text h in inner_declares k.2.tree text (ap (λ xs. mark "<" ∷ xs) k.2.spelled ∙ sym k.1))

inner_closed : (all : List Lexical) (mid : ℕ) → Next all mid (mark ">") → (tree : Option Kind) (rest : List Lexical) → Heads all mid (inner_text tree ++ rest) → Tok (mark ">") (Is []) (inner_text tree)
inner_closed all mid n None rest h = tok_in (mark ">") (Is []) [] refl
inner_closed all mid n (Some kind) rest h = let e : word (kind_word kind) ≡ mark ">" = head_is all mid (mark ">") (word (kind_word kind)) (mark ">" ∷ rest) h n in absurd (cc)

pub declared_inferred : {all : List Lexical} {E : List Lexical → Type 0} {at mid : ℕ} → Leads all (Spells declared_text) (Spells inner_text) E at mid → Next all mid (mark ">") → Leads all (Spells declared_text) (Tok (mark ">") (Is [])) E at mid
declared_inferred {all} {E} {at} {mid} h n = refined_tree all (Spells declared_text) inner_text (Tok (mark ">") (Is [])) E at mid h (λ tree rest k b. inner_closed all mid n tree rest k)
    (λ text t. let k = tok_out (mark ">") (Is []) text t in record { tree = None; spelled = ap (λ xs. mark ">" ∷ xs) (sym k.2) ∙ sym k.1 })

-- a kind and `>`
abbrev pub KindThenSign : List Lexical → Type 0
KindThenSign = Then (Token IsKindToken) (Tok (mark ">") (Is []))

inner_kind : (all : List Lexical) (mid : ℕ) → (Next all mid (mark ">") → ⊥) → (tree : Option Kind) (rest : List Lexical) → Heads all mid (inner_text tree ++ rest) → KindThenSign (inner_text tree)
inner_kind all mid none None rest h = absurd (none (h.some (mark ">") rest refl))
inner_kind all mid none (Some kind) rest h = any_in IsKindToken (Tok (mark ">") (Is [])) (word (kind_word kind)) (mark ">" ∷ []) (kind, refl) (tok_in (mark ">") (Is []) [] refl)

kind_back : (text : List Lexical) → KindThenSign text → Spells inner_text text
kind_back text t = let k = any_out IsKindToken (Tok (mark ">") (Is [])) text t in let l = tok_out (mark ">") (Is []) k.1 k.3 in
    record { tree = Some k.2.0; spelled = ap (λ xs. word (kind_word k.2.0) ∷ mark ">" ∷ xs) (sym l.2) ∙ ap (λ (y : Lexical). y ∷ mark ">" ∷ l.0) (sym k.2.1) ∙ ap (λ xs. k.0 ∷ xs) (sym l.1) ∙ sym k.4 }

pub declared_of : {all : List Lexical} {E : List Lexical → Type 0} {at mid : ℕ} → Leads all (Spells declared_text) (Spells inner_text) E at mid → (Next all mid (mark ">") → ⊥) → Leads all (Spells declared_text) KindThenSign E at mid
declared_of {all} {E} {at} {mid} h none = refined_tree all (Spells declared_text) inner_text KindThenSign E at mid h (λ tree rest k b. inner_kind all mid none tree rest k) kind_back

-- ---- subscripts

may_place : (p : Option Sums) → MayBegin (λ x. x ≡ mark "[") (place_text p)
may_place None = not_there refl
may_place (Some places) = begins (mark "[") _ refl refl

pub no_place : (all : List Lexical) (at : ℕ) → at ≤ length all → (Next all at (mark "[") → ⊥) → Ends all (Spells place_text) (Behind (is_other (codes "["))) at at
no_place all at within none = absent all place_text (λ x. x ≡ mark "[") (Behind (is_other (codes "["))) at None refl may_place within (λ x e n. none (subst (λ (y : Lexical). Next all at y) e n))

place_tree : (all : List Lexical) (at : ℕ) → Next all at (mark "[") → (tree : Option Sums) (rest : List Lexical) → Heads all at (place_text tree ++ rest) → Behind (is_other (codes "[")) rest → Spells bracketed (place_text tree)
place_tree all at n None rest h b = absurd (no_rest all at (mark "[") (is_other (codes "[")) rest h n b refl)
place_tree all at n (Some places) rest h b = a_spelling bracketed places

pub place_opens : (all : List Lexical) (at : ℕ) → Next all at (mark "[") → Leads all (Spells place_text) (Spells bracketed) (Behind (is_other (codes "["))) at at
place_opens all at n = first all place_text (Spells bracketed) (Behind (is_other (codes "["))) at (next_within all at (mark "[") n) (place_tree all at n) (λ text s. record { tree = Some s.tree; spelled = s.spelled })

-- ---- how an instruction stores

stored_tree : (all : List Lexical) (at : ℕ) (s : List ℕ) → Next all at (sign s) → (tree : Stored) (rest : List Lexical) → Heads all at (stored_text tree ++ rest) → Tok (sign s) (Is []) (stored_text tree)
stored_tree all at s n Plain rest h = subst (λ (y : Lexical). Tok (sign s) (Is []) (y ∷ [])) (sym (head_is all at (sign s) (mark "=") rest h n)) (tok_in (sign s) (Is []) [] refl)
stored_tree all at s n (Update folding.Sum) rest h = subst (λ (y : Lexical). Tok (sign s) (Is []) (y ∷ [])) (sym (head_is all at (sign s) (mark "+=") rest h n)) (tok_in (sign s) (Is []) [] refl)
stored_tree all at s n (Update folding.Product) rest h = subst (λ (y : Lexical). Tok (sign s) (Is []) (y ∷ [])) (sym (head_is all at (sign s) (mark "*=") rest h n)) (tok_in (sign s) (Is []) [] refl)
stored_tree all at s n (Update (folding.Extreme Min)) rest h = let e : key "min" ≡ sign s = head_is all at (sign s) (key "min") (mark "=" ∷ rest) h n in absurd (cc)
stored_tree all at s n (Update (folding.Extreme Max)) rest h = let e : key "max" ≡ sign s = head_is all at (sign s) (key "max") (mark "=" ∷ rest) h n in absurd (cc)

pub stored_sign : (all : List Lexical) (at : ℕ) (st : Stored) (s : List ℕ) → stored_text st ≡ sign s ∷ [] → Next all at (sign s) → Leads all (Spells stored_text) (Tok (sign s) (Is [])) AnyRest at at
stored_sign all at st s e n = first all stored_text (Tok (sign s) (Is [])) AnyRest at (next_within all at (sign s) n) (λ tree rest h b. stored_tree all at s n tree rest h)
    (λ text t. let k = tok_out (sign s) (Is []) text t in record { tree = st; spelled = e ∙ ap (λ xs. sign s ∷ xs) (sym k.2) ∙ sym k.1 })

no_extreme : (s : List ℕ) (which : Extreme) → sign s ≡ extreme_text which → ⊥
no_extreme s Min e = absurd (cc)
no_extreme s Max e = absurd (cc)

extreme_tree : (all : List Lexical) (at : ℕ) (which : Extreme) → Next all at (extreme_text which) → (tree : Stored) (rest : List Lexical) → Heads all at (stored_text tree ++ rest) → Tok (extreme_text which) (Tok (mark "=") (Is [])) (stored_text tree)
extreme_tree all at which n Plain rest h = absurd (no_extreme (codes "=") which (head_is all at (extreme_text which) (mark "=") rest h n))
extreme_tree all at which n (Update folding.Sum) rest h = absurd (no_extreme (codes "+=") which (head_is all at (extreme_text which) (mark "+=") rest h n))
extreme_tree all at which n (Update folding.Product) rest h = absurd (no_extreme (codes "*=") which (head_is all at (extreme_text which) (mark "*=") rest h n))
extreme_tree all at which n (Update (folding.Extreme other)) rest h = subst (λ (y : Lexical). Tok (extreme_text which) (Tok (mark "=") (Is [])) (y ∷ mark "=" ∷ [])) (sym (head_is all at (extreme_text which) (extreme_text other) (mark "=" ∷ rest) h n))
    (tok_in (extreme_text which) (Tok (mark "=") (Is [])) (mark "=" ∷ []) (tok_in (mark "=") (Is []) [] refl))

pub stored_extreme : (all : List Lexical) (at : ℕ) (which : Extreme) → Next all at (extreme_text which) → Leads all (Spells stored_text) (Tok (extreme_text which) (Tok (mark "=") (Is []))) AnyRest at at
stored_extreme all at which n = first all stored_text (Tok (extreme_text which) (Tok (mark "=") (Is []))) AnyRest at (next_within all at (extreme_text which) n) (λ tree rest h b. extreme_tree all at which n tree rest h)
    (λ text t. let k = tok_out (extreme_text which) (Tok (mark "=") (Is [])) text t in let l = tok_out (mark "=") (Is []) k.0 k.2 in
    record { tree = Update (folding.Extreme which); spelled = ap (λ xs. extreme_text which ∷ mark "=" ∷ xs) (sym l.2) ∙ ap (λ xs. extreme_text which ∷ xs) (sym l.1) ∙ sym k.1 })

none_stored : (all : List Lexical) (at : ℕ) → ((st : Stored) (s : List ℕ) → stored_text st ≡ sign s ∷ [] → Next all at (sign s) → ⊥) → ((which : Extreme) → Next all at (extreme_text which) → ⊥)
    → (tree : Stored) (rest : List Lexical) → Heads all at (stored_text tree ++ rest) → ⊥
none_stored all at signs none Plain rest h = signs Plain (codes "=") refl (h.some (mark "=") rest refl)
none_stored all at signs none (Update folding.Sum) rest h = signs (Update folding.Sum) (codes "+=") refl (h.some (mark "+=") rest refl)
none_stored all at signs none (Update folding.Product) rest h = signs (Update folding.Product) (codes "*=") refl (h.some (mark "*=") rest refl)
none_stored all at signs none (Update (folding.Extreme which)) rest h = none which (h.some (extreme_text which) (mark "=" ∷ rest) refl)

pub stored_stop : (all : List Lexical) (at : ℕ) → at ≤ length all → ((st : Stored) (s : List ℕ) → stored_text st ≡ sign s ∷ [] → Next all at (sign s) → ⊥) → ((which : Extreme) → Next all at (extreme_text which) → ⊥) → Stops all (Spells stored_text) AnyRest at at
stored_stop all at within signs none = refused all (Spells stored_text) (Spells stored_text) AnyRest at at (mark "=" ∷ []) (start all (Spells stored_text) AnyRest at within)
    (λ t rest h s b. none_stored all at signs none s.tree rest (subst (λ xs. Heads all at (xs ++ rest)) (sym s.spelled) h)) (a_spelling stored_text Plain)

-- ---- ids

ids_begin : (ids : List Name) → MayBegin IsNameToken (ids_text ids)
ids_begin [] = not_there refl
ids_begin (name ∷ []) = begins (word name.word) [] (name, refl) refl
ids_begin (name ∷ other ∷ more) = begins (word name.word) _ (name, refl) refl

pub no_ids : (all : List Lexical) (at : ℕ) → at ≤ length all → ((n : Name) → Next all at (word n.word) → ⊥) → Ends all (Spells ids_text) (Behind ends_ids) at at
no_ids all at within none = absent all ids_text IsNameToken (Behind ends_ids) at [] refl ids_begin within (λ x i n. none i.0 (subst (λ (y : Lexical). Next all at y) i.1 n))

ids_tree : (all : List Lexical) (at : ℕ) (w : List ℕ) → Next all at (word w) → is_reserved w ≡ false → (tree : List Name) (rest : List Lexical) → Heads all at (ids_text tree ++ rest) → Behind ends_ids rest → SpellsList name_text (mark ":") (ids_text tree)
ids_tree all at w n free [] rest h b = absurd (no_rest all at (word w) ends_ids rest h n b (ap (λ (r : Bool). not (not r) && true) free))
ids_tree all at w n free (name ∷ more) rest h b = record { first = name; more = more; spelled = refl }

pub ids_open : (all : List Lexical) (at : ℕ) (w : List ℕ) → Next all at (word w) → is_reserved w ≡ false → Leads all (Spells ids_text) (SpellsList name_text (mark ":")) (Behind ends_ids) at at
ids_open all at w n free = first all ids_text (SpellsList name_text (mark ":")) (Behind ends_ids) at (next_within all at (word w) n) (ids_tree all at w n free) (λ text s. record { tree = s.first ∷ s.more; spelled = s.spelled })

pub ids_rest : (rest : List Lexical) → Behind ends_ids rest → Behind (is_other (codes ":")) rest
ids_rest rest b = weaker ends_ids (is_other (codes ":")) (λ x e. (both _ (is_other (codes ":") x) e).1) rest b

-- ---- options

-- a dependence behind its sign
abbrev pub starred_text : Bool × List Name → List Lexical
starred_text ids = star_text ids.0 ++ ids_text ids.1

-- inames behind their sign
abbrev pub colons_text : Name × List Name → List Lexical
colons_text list = ids_text (list.0 ∷ list.1)

-- a word and its sign begin an option
pub option_opens : (all : List Lexical) {X : Type 0} (spell inner : X → List Lexical) (x : Lexical) (E : List Lexical → Type 0) (at : ℕ) → ((tree : X) → spell tree ≡ x ∷ mark "=" ∷ inner tree) → Next all at x → Leads all (Spells spell) (Tok (mark "=") (Spells inner)) E at (at + 1)
option_opens all spell inner x E at are n = opens all spell x (Tok (mark "=") (Spells inner)) E at
    (λ tree. subst (Tok x (Tok (mark "=") (Spells inner))) (sym (are tree)) (tok_in x (Tok (mark "=") (Spells inner)) (mark "=" ∷ inner tree) (tok_in (mark "=") (Spells inner) (inner tree) (a_spelling inner tree))))
    (λ text t. let k = tok_out x (Tok (mark "=") (Spells inner)) text t in let l = tok_out (mark "=") (Spells inner) k.0 k.2 in
    record { tree = l.2.tree; spelled = are l.2.tree ∙ ap (λ xs. x ∷ mark "=" ∷ xs) l.2.spelled ∙ ap (λ xs. x ∷ xs) (sym l.1) ∙ sym k.1 }) n

pub id_opens : (all : List Lexical) (at : ℕ) → Next all at (key "id") → Leads all (Spells id_text) (Tok (mark "=") (Spells name_text)) AnyRest at (at + 1)
id_opens all at n = option_opens all id_text name_text (key "id") AnyRest at (λ tree. refl) n

pub dep_opens : (all : List Lexical) (at : ℕ) → Next all at (key "dep") → Leads all (Spells dep_text) (Tok (mark "=") (Spells starred_text)) (Behind ends_dep) at (at + 1)
dep_opens all at n = option_opens all dep_text starred_text (key "dep") (Behind ends_dep) at (λ tree. refl) n

pub inames_open : (all : List Lexical) (at : ℕ) → Next all at (key "inames") → Leads all (Spells inames_text) (Tok (mark "=") (Spells colons_text)) (Behind (is_other (codes ":"))) at (at + 1)
inames_open all at n = option_opens all inames_text colons_text (key "inames") (Behind (is_other (codes ":"))) at (λ tree. refl) n

pub condition_opens : (all : List Lexical) (at : ℕ) → Next all at (key "if") → Leads all (Spells condition_text) (Tok (mark "=") (Spells or_text)) (Behind (ends_level 1)) at (at + 1)
condition_opens all at n = option_opens all condition_text or_text (key "if") (Behind (ends_level 1)) at (λ tree. refl) n

star_tree : (all : List Lexical) (mid : ℕ) → Next all mid (mark "*") → (tree : Bool × List Name) (rest : List Lexical) → Heads all mid (starred_text tree ++ rest) → Behind ends_dep rest → Tok (mark "*") (Spells ids_text) (starred_text tree)
star_tree all mid n (true, ids) rest h b = tok_in (mark "*") (Spells ids_text) (ids_text ids) (a_spelling ids_text ids)
star_tree all mid n (false, []) rest h b = absurd (no_rest all mid (mark "*") ends_dep rest h n b refl)
star_tree all mid n (false, name ∷ []) rest h b = let e : word name.word ≡ mark "*" = head_is all mid (mark "*") (word name.word) rest h n in absurd (cc)
star_tree all mid n (false, name ∷ other ∷ more) rest h b = let e : word name.word ≡ mark "*" = head_is all mid (mark "*") (word name.word) _ h n in absurd (cc)

pub starred : {all : List Lexical} {P : List Lexical → Type 0} {at mid : ℕ} → Leads all P (Spells starred_text) (Behind ends_dep) at mid → Next all mid (mark "*") → Leads all P (Tok (mark "*") (Spells ids_text)) (Behind ends_dep) at mid
starred {all} {P} {at} {mid} h n = refined_tree all P starred_text (Tok (mark "*") (Spells ids_text)) (Behind ends_dep) at mid h (star_tree all mid n)
    (λ text t. let k = tok_out (mark "*") (Spells ids_text) text t in record { tree = (true, k.2.tree); spelled = ap (λ xs. mark "*" ∷ xs) k.2.spelled ∙ sym k.1 })

plain_tree : (all : List Lexical) (mid : ℕ) → (Next all mid (mark "*") → ⊥) → (tree : Bool × List Name) (rest : List Lexical) → Heads all mid (starred_text tree ++ rest) → Spells ids_text (starred_text tree)
plain_tree all mid none (true, ids) rest h = absurd (none (h.some (mark "*") (ids_text ids ++ rest) refl))
plain_tree all mid none (false, ids) rest h = a_spelling ids_text ids

pub unstarred : {all : List Lexical} {P : List Lexical → Type 0} {at mid : ℕ} → Leads all P (Spells starred_text) (Behind ends_dep) at mid → (Next all mid (mark "*") → ⊥) → Leads all P (Spells ids_text) (Behind ends_dep) at mid
unstarred {all} {P} {at} {mid} h none = refined_tree all P starred_text (Spells ids_text) (Behind ends_dep) at mid h (λ tree rest k b. plain_tree all mid none tree rest k) (λ text s. record { tree = (false, s.tree); spelled = s.spelled })

pub dep_ids : (rest : List Lexical) → Behind ends_dep rest → Behind ends_ids rest
dep_ids rest b = weaker ends_dep ends_ids (λ x e. (both (ends_ids x) (is_other (codes "*") x) e).0) rest b

pub colons : {all : List Lexical} {P E : List Lexical → Type 0} {at mid : ℕ} → Leads all P (Spells colons_text) E at mid → Leads all P (SpellsList name_text (mark ":")) E at mid
colons {all} {P} {E} {at} {mid} h = refined_tree all P colons_text (SpellsList name_text (mark ":")) E at mid h (λ tree rest k b. record { first = tree.0; more = tree.1; spelled = refl }) (λ text s. record { tree = (s.first, s.more); spelled = s.spelled })

-- the word before the sign of an option
opener : InsnOption → Lexical
opener (id name) = key "id"
opener (dep star ids) = key "dep"
opener (inames name list) = key "inames"
opener (condition test) = key "if"

-- ---- the choice of an option

id_tree : (all : List Lexical) (at : ℕ) → Next all at (key "id") → (tree : InsnOption) (rest : List Lexical) → Heads all at (option_text tree ++ rest) → Spells id_text (option_text tree)
id_tree all at n (id name) rest h = a_spelling id_text name
id_tree all at n (dep star ids) rest h = absurd (not_head all at (key "id") (key "dep") _ (is_word (codes "dep")) h n refl refl)
id_tree all at n (inames name list) rest h = absurd (not_head all at (key "id") (key "inames") _ (is_word (codes "inames")) h n refl refl)
id_tree all at n (condition test) rest h = absurd (not_head all at (key "id") (key "if") _ (is_word (codes "if")) h n refl refl)

dep_tree : (all : List Lexical) (at : ℕ) → Next all at (key "dep") → (tree : InsnOption) (rest : List Lexical) → Heads all at (option_text tree ++ rest) → Spells dep_text (option_text tree)
dep_tree all at n (id name) rest h = absurd (not_head all at (key "dep") (key "id") _ (is_word (codes "id")) h n refl refl)
dep_tree all at n (dep star ids) rest h = a_spelling dep_text (star, ids)
dep_tree all at n (inames name list) rest h = absurd (not_head all at (key "dep") (key "inames") _ (is_word (codes "inames")) h n refl refl)
dep_tree all at n (condition test) rest h = absurd (not_head all at (key "dep") (key "if") _ (is_word (codes "if")) h n refl refl)

inames_tree : (all : List Lexical) (at : ℕ) → Next all at (key "inames") → (tree : InsnOption) (rest : List Lexical) → Heads all at (option_text tree ++ rest) → Spells inames_text (option_text tree)
inames_tree all at n (id name) rest h = absurd (not_head all at (key "inames") (key "id") _ (is_word (codes "id")) h n refl refl)
inames_tree all at n (dep star ids) rest h = absurd (not_head all at (key "inames") (key "dep") _ (is_word (codes "dep")) h n refl refl)
inames_tree all at n (inames name list) rest h = a_spelling inames_text (name, list)
inames_tree all at n (condition test) rest h = absurd (not_head all at (key "inames") (key "if") _ (is_word (codes "if")) h n refl refl)

condition_tree : (all : List Lexical) (at : ℕ) → Next all at (key "if") → (tree : InsnOption) (rest : List Lexical) → Heads all at (option_text tree ++ rest) → Spells condition_text (option_text tree)
condition_tree all at n (id name) rest h = absurd (not_head all at (key "if") (key "id") _ (is_word (codes "id")) h n refl refl)
condition_tree all at n (dep star ids) rest h = absurd (not_head all at (key "if") (key "dep") _ (is_word (codes "dep")) h n refl refl)
condition_tree all at n (inames name list) rest h = absurd (not_head all at (key "if") (key "inames") _ (is_word (codes "inames")) h n refl refl)
condition_tree all at n (condition test) rest h = a_spelling condition_text test

pub option_id : (all : List Lexical) (at : ℕ) → Next all at (key "id") → Leads all (Spells option_text) (Spells id_text) (Behind ends_option) at at
option_id all at n = first all option_text (Spells id_text) (Behind ends_option) at (next_within all at (key "id") n) (λ tree rest h b. id_tree all at n tree rest h) (λ text s. record { tree = id s.tree; spelled = s.spelled })

pub option_dep : (all : List Lexical) (at : ℕ) → Next all at (key "dep") → Leads all (Spells option_text) (Spells dep_text) (Behind ends_option) at at
option_dep all at n = first all option_text (Spells dep_text) (Behind ends_option) at (next_within all at (key "dep") n) (λ tree rest h b. dep_tree all at n tree rest h) (λ text s. record { tree = dep s.tree.0 s.tree.1; spelled = s.spelled })

pub option_inames : (all : List Lexical) (at : ℕ) → Next all at (key "inames") → Leads all (Spells option_text) (Spells inames_text) (Behind ends_option) at at
option_inames all at n = first all option_text (Spells inames_text) (Behind ends_option) at (next_within all at (key "inames") n) (λ tree rest h b. inames_tree all at n tree rest h) (λ text s. record { tree = inames s.tree.0 s.tree.1; spelled = s.spelled })

pub option_condition : (all : List Lexical) (at : ℕ) → Next all at (key "if") → Leads all (Spells option_text) (Spells condition_text) (Behind ends_option) at at
option_condition all at n = first all option_text (Spells condition_text) (Behind ends_option) at (next_within all at (key "if") n) (λ tree rest h b. condition_tree all at n tree rest h) (λ text s. record { tree = condition s.tree; spelled = s.spelled })

-- the two tokens that end an option
comma_or : (a b : Bool) → (a || b) ≡ true → (a ≡ true) ⊎ (b ≡ true)
comma_or true b e = inl refl
comma_or false b e = inr e

one_of : (g : Lexical → Bool) (s : List ℕ) → g (mark ",") ≡ true → g (mark "}") ≡ true → (bytes_eq s (codes ",") ≡ true) ⊎ (bytes_eq s (codes "}") ≡ true) → g (sign s) ≡ true
one_of g s a b (inl e) = ap (λ (t : List ℕ). g (sign t)) ((bytes_eq-Decides s (codes ",")).0 e) ∙ a
one_of g s a b (inr e) = ap (λ (t : List ℕ). g (sign t)) ((bytes_eq-Decides s (codes "}")).0 e) ∙ b

option_end : (g : Lexical → Bool) → g (mark ",") ≡ true → g (mark "}") ≡ true → (x : Lexical) → ends_option x ≡ true → g x ≡ true
option_end g a b (word w) e = absurd (cc)
option_end g a b (number d) e = absurd (cc)
option_end g a b line_end e = absurd (cc)
option_end g a b (sign s) e = one_of g s a b (comma_or (bytes_eq s (codes ",")) (bytes_eq s (codes "}")) e)

pub option_rest : (g : Lexical → Bool) → g (mark ",") ≡ true → g (mark "}") ≡ true → (rest : List Lexical) → Behind ends_option rest → Behind g rest
option_rest g a b rest h = weaker ends_option g (option_end g a b) rest h

-- no option begins with the token
other_word : (w : List ℕ) → (w ≡ codes "id" → ⊥) → (w ≡ codes "dep" → ⊥) → (w ≡ codes "inames" → ⊥) → is_reserved w ≡ false → (tree : InsnOption) → opener tree ≡ word w → ⊥
unfolding opener
other_word w a b c free (id name) e = a (cc)
other_word w a b c free (dep star ids) e = b (cc)
other_word w a b c free (inames name list) e = c (cc)
other_word w a b c free (condition test) e = let k : codes "if" ≡ w = cc in let l : true ≡ false = ap is_reserved k ∙ free in absurd (cc)

option_begins : (tree : InsnOption) → (more : List Lexical) × (option_text tree ≡ opener tree ∷ more)
unfolding opener
option_begins (id name) = (_, refl)
option_begins (dep star ids) = (_, refl)
option_begins (inames name list) = (_, refl)
option_begins (condition test) = (_, refl)

no_option : (all : List Lexical) (at : ℕ) → at ≤ length all → ((tree : InsnOption) → Next all at (opener tree) → ⊥) → Stops all (Spells option_text) (Behind ends_option) at at
no_option all at within none = refused all (Spells option_text) (Spells option_text) (Behind ends_option) at at (option_text (id some_name)) (start all (Spells option_text) (Behind ends_option) at within)
    (λ t rest h s b. let k = option_begins s.tree in none s.tree (h.some (opener s.tree) (k.0 ++ rest) (ap (λ xs. xs ++ rest) (sym s.spelled ∙ k.1)))) (a_spelling option_text (id some_name))

pub next_is : (all : List Lexical) (at : ℕ) (w t : List ℕ) → Next all at (word w) → true ≡ bytes_eq w t → Next all at (word t)
next_is all at w t n e = subst (λ (v : List ℕ). Next all at (word v)) ((bytes_eq-Decides w t).0 (sym e)) n

other : (w t : List ℕ) → false ≡ bytes_eq w t → w ≡ t → ⊥
other w t e k = let c : false ≡ true = e ∙ (bytes_eq-Decides w t).1 k in absurd (cc)

pub option_other : (all : List Lexical) (at : ℕ) (w : List ℕ) → at ≤ length all → Next all at (word w) → is_reserved w ≡ false → false ≡ bytes_eq w (codes "id") → false ≡ bytes_eq w (codes "dep") → false ≡ bytes_eq w (codes "inames") → Stops all (Spells option_text) (Behind ends_option) at at
option_other all at w within n free a b c = no_option all at within (λ tree k. other_word w (other w (codes "id") a) (other w (codes "dep") b) (other w (codes "inames") c) free tree (next_same all at (opener tree) (word w) k n))

no_word : (all : List Lexical) (at : ℕ) → (Next all at (key "if") → ⊥) → ((n : Name) → Next all at (word n.word) → ⊥) → (tree : InsnOption) → Next all at (opener tree) → ⊥
unfolding opener
no_word all at a b (id name) n = b (record { word = codes "id"; free = refl }) n
no_word all at a b (dep star ids) n = b (record { word = codes "dep"; free = refl }) n
no_word all at a b (inames name list) n = b (record { word = codes "inames"; free = refl }) n
no_word all at a b (condition test) n = a n

pub option_none : (all : List Lexical) (at : ℕ) → at ≤ length all → (Next all at (key "if") → ⊥) → ((n : Name) → Next all at (word n.word) → ⊥) → Stops all (Spells option_text) (Behind ends_option) at at
option_none all at within a b = no_option all at within (no_word all at a b)

-- ---- lists of options

brace_ends : (x : Lexical) → is_mark (codes "}") x ≡ true → ends_option x ≡ true
brace_ends (word w) e = absurd (cc)
brace_ends (number d) e = absurd (cc)
brace_ends line_end e = absurd (cc)
brace_ends (sign s) e = ap (λ (t : List ℕ). ends_option (sign t)) ((bytes_eq-Decides s (codes "}")).0 e)

-- options up to the place leave further ones
pub options_to : List Lexical → ℕ → ℕ → Type 0
options_to all at mid = Leads all (SpellsList option_text (mark ",")) (Spells (more_text option_text (mark ","))) (Behind (is_mark (codes "}"))) at mid

-- an option is wanted
pub options_want : List Lexical → ℕ → ℕ → Type 0
options_want all at mid = Leads all (SpellsList option_text (mark ",")) (Items option_text (mark ",")) (Behind (is_mark (codes "}"))) at mid

pub options_start : (all : List Lexical) (at : ℕ) → at ≤ length all → options_want all at at
unfolding options_want
options_start all at within = list_start all option_text (mark ",") (Behind (is_mark (codes "}"))) at within

pub options_on : (S : Type 0) (v : chosen.InsnOption) (all : List Lexical) (at mid next : ℕ) → options_want all at mid → Reads all mid next (IsItem S option_text option_of v) → Ends all (Spells option_text) (Behind ends_option) mid next → options_to all at next
unfolding options_to options_want
options_on S v all at mid next h k e = list_item all (SpellsList option_text (mark ",")) option_text (mark ",") (is_mark (codes "}")) ends_option at mid next h brace_ends refl (spelled k) e

pub options_comma : (all : List Lexical) (at mid next : ℕ) → options_to all at mid → next ≡ mid + 1 → Next all mid (mark ",") → options_want all at next
unfolding options_to options_want
options_comma all at mid next h e n = list_next all (SpellsList option_text (mark ",")) option_text (mark ",") (is_mark (codes "}")) at mid next h refl e n

pub options_stop : (all : List Lexical) (at mid : ℕ) (s : Stop) → options_want all at mid → (mid ≤ length all → Halts (Stops all (Spells option_text) (Behind ends_option) mid) s) → Halts (Stops all (SpellsList option_text (mark ",")) (Behind (is_mark (codes "}"))) at) s
unfolding options_want
options_stop all at mid s h k = list_stops all (SpellsList option_text (mark ",")) option_text (mark ",") (is_mark (codes "}")) ends_option at mid s h brace_ends refl (k h.within)

pub options_end : (all : List Lexical) (at mid : ℕ) → options_to all at mid → (Next all mid (mark ",") → ⊥) → Ends all (SpellsList option_text (mark ",")) (Behind (is_mark (codes "}"))) at mid
unfolding options_to
options_end all at mid h none = list_done all (SpellsList option_text (mark ",")) option_text (mark ",") (Behind (is_mark (codes "}"))) at mid h none

-- ---- options in braces

-- options behind `{`
abbrev pub braced_text : List InsnOption → List Lexical
braced_text options = listed (mark ",") (map option_text options) ++ mark "}" ∷ []

may_brace : (o : Option (List InsnOption)) → MayBegin (λ x. x ≡ mark "{") (options_text o)
may_brace None = not_there refl
may_brace (Some options) = begins (mark "{") (braced_text options) refl refl

pub no_options : (all : List Lexical) (at : ℕ) → at ≤ length all → (Next all at (mark "{") → ⊥) → Ends all (Spells options_text) (Behind (is_other (codes "{"))) at at
no_options all at within none = absent all options_text (λ x. x ≡ mark "{") (Behind (is_other (codes "{"))) at None refl may_brace within (λ x e n. none (subst (λ (y : Lexical). Next all at y) e n))

brace_tree : (all : List Lexical) (at : ℕ) → Next all at (mark "{") → (tree : Option (List InsnOption)) (rest : List Lexical) → Heads all at (options_text tree ++ rest) → Behind (is_other (codes "{")) rest → Tok (mark "{") (Spells braced_text) (options_text tree)
brace_tree all at n None rest h b = absurd (no_rest all at (mark "{") (is_other (codes "{")) rest h n b refl)
brace_tree all at n (Some options) rest h b = tok_in (mark "{") (Spells braced_text) (braced_text options) (a_spelling braced_text options)

pub options_open : (all : List Lexical) (at : ℕ) → Next all at (mark "{") → Leads all (Spells options_text) (Tok (mark "{") (Spells braced_text)) (Behind (is_other (codes "{"))) at at
options_open all at n = first all options_text (Tok (mark "{") (Spells braced_text)) (Behind (is_other (codes "{"))) at (next_within all at (mark "{") n) (brace_tree all at n)
    (λ text t. let k = tok_out (mark "{") (Spells braced_text) text t in record { tree = Some k.2.tree; spelled = ap (λ xs. mark "{" ∷ xs) k.2.spelled ∙ sym k.1 })

opener_no_sign : (tree : InsnOption) → opener tree ≡ mark "}" → ⊥
unfolding opener
opener_no_sign (id name) e = absurd (cc)
opener_no_sign (dep star ids) e = absurd (cc)
opener_no_sign (inames name list) e = absurd (cc)
opener_no_sign (condition test) e = absurd (cc)

list_begins : (o : InsnOption) (os : List InsnOption) → (more : List Lexical) × (listed (mark ",") (map option_text (o ∷ os)) ≡ opener o ∷ more)
list_begins o [] = option_begins o
list_begins o (other ∷ os) = let k = option_begins o in (k.0 ++ mark "," ∷ listed (mark ",") (map option_text (other ∷ os)), ap (λ xs. xs ++ mark "," ∷ listed (mark ",") (map option_text (other ∷ os))) k.1)

empty_tree : (all : List Lexical) (mid : ℕ) → Next all mid (mark "}") → (tree : List InsnOption) (rest : List Lexical) → Heads all mid (braced_text tree ++ rest) → Tok (mark "}") (Is []) (braced_text tree)
empty_tree all mid n [] rest h = tok_in (mark "}") (Is []) [] refl
empty_tree all mid n (o ∷ os) rest h = let k = list_begins o os in
    absurd (opener_no_sign o (next_same all mid (opener o) (mark "}") (h.some (opener o) ((k.0 ++ mark "}" ∷ []) ++ rest) (ap (λ xs. (xs ++ mark "}" ∷ []) ++ rest) k.1)) n))

pub options_closed : {all : List Lexical} {P E : List Lexical → Type 0} {at mid : ℕ} → Leads all P (Spells braced_text) E at mid → Next all mid (mark "}") → Leads all P (Tok (mark "}") (Is [])) E at mid
options_closed {all} {P} {E} {at} {mid} h n = refined_tree all P braced_text (Tok (mark "}") (Is [])) E at mid h (λ tree rest k b. empty_tree all mid n tree rest k)
    (λ text t. let k = tok_out (mark "}") (Is []) text t in record { tree = []; spelled = ap (λ xs. mark "}" ∷ xs) (sym k.2) ∙ sym k.1 })

-- options and `}`
abbrev pub OptionsThenSign : List Lexical → Type 0
OptionsThenSign = Then (SpellsList option_text (mark ",")) (Tok (mark "}") (Is []))

some_tree : (all : List Lexical) (mid : ℕ) → (Next all mid (mark "}") → ⊥) → (tree : List InsnOption) (rest : List Lexical) → Heads all mid (braced_text tree ++ rest) → OptionsThenSign (braced_text tree)
some_tree all mid none [] rest h = absurd (none (h.some (mark "}") rest refl))
some_tree all mid none (o ∷ os) rest h = then_in (SpellsList option_text (mark ",")) (Tok (mark "}") (Is [])) (listed (mark ",") (map option_text (o ∷ os))) (mark "}" ∷ []) (record { first = o; more = os; spelled = refl }) (tok_in (mark "}") (Is []) [] refl)

pub options_some : {all : List Lexical} {P E : List Lexical → Type 0} {at mid : ℕ} → Leads all P (Spells braced_text) E at mid → (Next all mid (mark "}") → ⊥) → Leads all P OptionsThenSign E at mid
options_some {all} {P} {E} {at} {mid} h none = refined_tree all P braced_text OptionsThenSign E at mid h (λ tree rest k b. some_tree all mid none tree rest k)
    (λ text t. let l = tok_out (mark "}") (Is []) t.second t.other in record { tree = t.one.first ∷ t.one.more; spelled = ap (λ xs. xs ++ mark "}" ∷ []) t.one.spelled ∙ ap (λ xs. t.first ++ mark "}" ∷ xs) (sym l.2) ∙ ap (λ xs. t.first ++ xs) (sym l.1) ∙ sym t.whole })

pub sign_follows : (x : Lexical) (Q E : List Lexical → Type 0) (f : Lexical → Bool) → f x ≡ true → Follows (Tok x Q) E (Behind f)
sign_follows x Q E f e text rest t b = let k = tok_out x Q text t in subst (λ xs. Behind f (xs ++ rest)) (sym k.1) e

-- ---- instructions

-- the parts of an instruction, from the last
abbrev pub ValueOn : List Lexical → Type 0
ValueOn = Then (Spells or_text) (Spells options_text)

abbrev pub StoredOn : List Lexical → Type 0
StoredOn = Then (Spells stored_text) ValueOn

abbrev pub PlaceOn : List Lexical → Type 0
PlaceOn = Then (Spells place_text) StoredOn

abbrev pub CellOn : List Lexical → Type 0
CellOn = Then (Token IsNameToken) PlaceOn

abbrev pub DeclaredOn : List Lexical → Type 0
DeclaredOn = Then (Spells declared_text) CellOn

pub some_value : ValueOn (or_text an_or ++ [])
some_value = tree_in or_text (Spells options_text) an_or [] (a_spelling options_text None)

pub some_stored : StoredOn (mark "=" ∷ or_text an_or ++ [])
some_stored = tree_in stored_text ValueOn Plain (or_text an_or ++ []) some_value

pub some_place : PlaceOn (mark "=" ∷ or_text an_or ++ [])
some_place = tree_in place_text StoredOn None (mark "=" ∷ or_text an_or ++ []) some_stored

pub some_cell : CellOn (word some_name.word ∷ mark "=" ∷ or_text an_or ++ [])
some_cell = name_in PlaceOn some_name (mark "=" ∷ or_text an_or ++ []) some_place

six_parts : (d n p s v o : List Lexical) → d ++ n ++ p ++ s ++ v ++ o ≡ d ++ (n ++ (p ++ (s ++ (v ++ o))))
six_parts d n p s v o = simp append_assoc

insn_forth : (i : Insn) → DeclaredOn (insn_text i)
insn_forth i = subst DeclaredOn (sym (six_parts (declared_text i.declared) (name_text i.cell) (place_text i.place) (stored_text i.stored) (or_text i.value) (options_text i.options))) (tree_in declared_text CellOn i.declared _ (name_in PlaceOn i.cell _ (tree_in place_text StoredOn i.place _ (tree_in stored_text ValueOn i.stored _ (tree_in or_text (Spells options_text) i.value (options_text i.options) (a_spelling options_text i.options))))))

pub insn_back : (text : List Lexical) → DeclaredOn text → Spells insn_text text
insn_back text d = let c = d.other in let p = c.other in let s = p.other in let v = s.other in record {
  tree = record { declared = d.one.tree; cell = c.one.is.0; place = p.one.tree; stored = s.one.tree; value = v.one.tree; options = v.other.tree };
  spelled = six_parts (declared_text d.one.tree) (name_text c.one.is.0) (place_text p.one.tree) (stored_text s.one.tree) (or_text v.one.tree) (options_text v.other.tree) ∙ pasted declared_text CellOn text _ d (pasted_name PlaceOn d.second _ c (pasted place_text StoredOn c.second _ p (pasted stored_text ValueOn p.second _ s (pasted or_text (Spells options_text) s.second _ v v.other.spelled))));
}

pub insn_start : (all : List Lexical) (at : ℕ) → at ≤ length all → Leads all (Spells insn_text) DeclaredOn (Behind is_line_end) at at
insn_start all at within = first all insn_text DeclaredOn (Behind is_line_end) at within (λ tree rest h b. insn_forth tree) insn_back

pub cell_follows : Follows CellOn (Behind is_line_end) (Behind (is_other (codes "<")))
cell_follows = token_follows IsNameToken PlaceOn (Behind is_line_end) (is_other (codes "<")) (λ x n. ap (is_other (codes "<")) n.1)

stored_behind : (tree : Stored) (more : List Lexical) → Behind (is_other (codes "[")) (stored_text tree ++ more)
stored_behind Plain more = refl
stored_behind (Update folding.Sum) more = refl
stored_behind (Update folding.Product) more = refl
stored_behind (Update (folding.Extreme Min)) more = refl
stored_behind (Update (folding.Extreme Max)) more = refl

pub stored_follows : Follows StoredOn (Behind is_line_end) (Behind (is_other (codes "[")))
stored_follows = tree_follows stored_text ValueOn (Behind is_line_end) (Behind (is_other (codes "["))) stored_behind

only_line_end : (g : Lexical → Bool) → g line_end ≡ true → (x : Lexical) → is_line_end x ≡ true → g x ≡ true
only_line_end g e (word w) k = absurd (cc)
only_line_end g e (number d) k = absurd (cc)
only_line_end g e (sign s) k = absurd (cc)
only_line_end g e line_end k = e

pub line_end_rest : (g : Lexical → Bool) → g line_end ≡ true → (rest : List Lexical) → Behind is_line_end rest → Behind g rest
line_end_rest g e rest b = weaker is_line_end g (only_line_end g e) rest b

options_behind : (tree : Option (List InsnOption)) (rest : List Lexical) → Behind is_line_end rest → Behind (ends_level 1) (options_text tree ++ rest)
options_behind None rest b = line_end_rest (ends_level 1) refl rest b
options_behind (Some options) rest b = refl

pub options_follow : Follows (Spells options_text) (Behind is_line_end) (Behind (ends_level 1))
options_follow = follows_tree options_text (Behind is_line_end) (Behind (ends_level 1)) options_behind
