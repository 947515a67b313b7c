-- Why tokens are no file.
use Rattle.std.proofs.Common.{◌≡◌, ◌<◌, ◌≤◌, ◌+◌, ℕ, zero, suc, Bool, true, false, not, bytes_eq, codes, List, [], ◌∷◌, ◌++◌, length, ap, sym, refl, ◌∙◌, subst, append_assoc, arith, Option, Some, None, Result, Ok, Err, IfOk, IfErr}
use Rattle.std.proofs.lemmas.List.{append-nil, length-map}
use Rattle.kernel_expressions.specs.declared.lexeme.Lexeme.{Lexeme}
use Rattle.kernel_expressions.specs.Texts.{text_of, texts}
use Rattle.std.proofs.lemmas.Slice.Eq.{bytes_eq-Decides}
use Rattle.kernel_grammar.specs.Lexicals.{Lexical, number, line_end, key}
use Rattle.kernel_grammar.specs.Lines.{Line, line_text}
use Rattle.kernel_grammar.specs.Files.{lines_text, file_text}
use Rattle.kernel_expressions.specs.declared.stop.Stop.{Stop}
use Rattle.kernel_expressions.specs.Reads.{Next, Reads}
use Rattle.kernel_expressions.specs.Settled.{AnyRest, Behind, Ends, Halts, NoneNext, Spells, Stops}
use Rattle.kernel_syntax.specs.Behinds.{is_line_end}
use Rattle.kernel_syntax.specs.Parts.{Is}
use Rattle.kernel_syntax.specs.FileParts.{head_text, ended_text, RefusesFile}
use Rattle.kernel_syntax.proofs.Leads.{Heads, Leads, Then, Tok, first, next_within, next_same, start, refined, refined_tree, refused, tok_in, tok_out, then_in, a_spelling, pasted, pasted_sign, tree_in, token_follows, Follows, sign_on, no_sign, ended, part_on, no_part, no_last, not_head, halts}
use Rattle.kernel_syntax.proofs.LineEnds.{line_head, line_begins, line_word, other_head, no_begin_end}

-- a text of tokens that are known
pub known : {all : List Lexical} {P E : List Lexical → Type 0} {at mid : ℕ} {x : Lexical} {text : List Lexical} → Leads all P (Is (x ∷ text)) E at mid → Leads all P (Tok x (Is text)) E at mid
known {all} {P} {E} {at} {mid} {x} {text} h = refined all P (Is (x ∷ text)) (Tok x (Is text)) E at mid h (λ t rest k e b. subst (Tok x (Is text)) (sym e) (tok_in x (Is text) text refl)) (λ t k. let l = tok_out x (Is text) t k in l.1 ∙ ap (λ xs. x ∷ xs) l.2)

-- the token does not stand there
pub other_sign : {all : List Lexical} {P R E : List Lexical → Type 0} {at mid : ℕ} {x : Lexical} {text : List Lexical} → Leads all P (Tok x R) E at mid → R text → (Next all mid x → ⊥) → Stops all P E at mid
other_sign {all} {P} {R} {E} {at} {mid} {x} {text} h r none = refused all P (Tok x R) E at mid (x ∷ text) h
    (λ t rest k q e. let l = tok_out x R t q in none (k.some x (l.0 ++ rest) (ap (λ xs. xs ++ rest) l.1))) (tok_in x R text r)

-- ---- the head

pub head_start : (all : List Lexical) (at : ℕ) → at ≤ length all → Leads all (Is head_text) (Tok (key "kernel") (Is (number (codes "1") ∷ line_end ∷ []))) AnyRest at at
head_start all at within = known (start all (Is head_text) AnyRest at within)

number_same : (a b : List ℕ) → number a ≡ number b → a ≡ b
number_same a b e = cc

pub no_one : (all : List Lexical) (at : ℕ) (s : Stop) → Halts (NoneNext all at (λ x. (d : List ℕ) × (x ≡ number d))) s → Halts (NoneNext all at (λ x. x ≡ number (codes "1"))) s
no_one all at s h = halts (NoneNext all at (λ x. (d : List ℕ) × (x ≡ number d))) (NoneNext all at (λ x. x ≡ number (codes "1"))) s (λ n k. record { same = k.same; none = λ x m e. k.none x m (codes "1", e) }) h

pub other_number : (all : List Lexical) (at : ℕ) (d : List ℕ) → Next all at (number d) → bytes_eq d (codes "1") ≡ false → Next all at (number (codes "1")) → ⊥
other_number all at d n e m = let k : false ≡ true = sym e ∙ (bytes_eq-Decides d (codes "1")).1 (number_same d (codes "1") (next_same all at (number d) (number (codes "1")) n m)) in absurd (cc)

pub this_number : (all : List Lexical) (at : ℕ) (d : List ℕ) → Next all at (number d) → bytes_eq d (codes "1") ≡ true → Next all at (number (codes "1"))
this_number all at d n e = subst (λ (t : List ℕ). Next all at (number t)) ((bytes_eq-Decides d (codes "1")).0 e) n

-- the last token is handed on
pub sign_ends_through : {all : List Lexical} {P E : List Lexical → Type 0} {at mid : ℕ} {x : Lexical} (r : Result ℕ Stop) → Leads all P (Tok x (Is [])) E at mid → IfOk r (λ next. (next ≡ mid + 1) × Next all mid x) → IfOk r (λ next. Ends all P E at next)
sign_ends_through {all} {P} {E} {at} {mid} {x} (Ok next) h n = ended (sign_on h n)
sign_ends_through (Err s) h n = tt

pub sign_stops_through : {all : List Lexical} {P E : List Lexical → Type 0} {at mid : ℕ} {x : Lexical} (r : Result ℕ Stop) → Leads all P (Tok x (Is [])) E at mid → IfErr r (Halts (NoneNext all mid (λ y. y ≡ x))) → IfErr r (Halts (Stops all P E at))
sign_stops_through (Ok next) h k = tt
sign_stops_through {all} {P} {E} {at} {mid} {x} (Err s) h k = no_sign s h refl k

-- ---- a line with its end

no_line_head : (l : Line) → line_head l ≡ line_end → ⊥
no_line_head l e = other_head (line_head l) line_end e (line_word l) refl no_begin_end

ended_empty : (all : List Lexical) (at : ℕ) → Next all at line_end → (tree : Option Line) (rest : List Lexical) → Heads all at (ended_text tree ++ rest) → Tok line_end (Is []) (ended_text tree)
ended_empty all at n None rest h = tok_in line_end (Is []) [] refl
ended_empty all at n (Some l) rest h = let k = line_begins l in
    absurd (no_line_head l (next_same all at (line_head l) line_end (h.some (line_head l) ((k.0 ++ line_end ∷ []) ++ rest) (ap (λ xs. (xs ++ line_end ∷ []) ++ rest) k.1)) n))

pub ended_closes : (all : List Lexical) (at : ℕ) → Next all at line_end → Leads all (Spells ended_text) (Tok line_end (Is [])) AnyRest at at
ended_closes all at n = first all ended_text (Tok line_end (Is [])) AnyRest at (next_within all at line_end n) (λ tree rest h b. ended_empty all at n tree rest h)
    (λ text t. let k = tok_out line_end (Is []) text t in record { tree = None; spelled = ap (λ xs. line_end ∷ xs) (sym k.2) ∙ sym k.1 })

-- a line and its end
abbrev pub LineOn : List Lexical → Type 0
LineOn = Then (Spells line_text) (Tok line_end (Is []))

ended_line : (all : List Lexical) (at : ℕ) → (Next all at line_end → ⊥) → (tree : Option Line) (rest : List Lexical) → Heads all at (ended_text tree ++ rest) → LineOn (ended_text tree)
ended_line all at none None rest h = absurd (none (h.some line_end rest refl))
ended_line all at none (Some l) rest h = tree_in line_text (Tok line_end (Is [])) l (line_end ∷ []) (tok_in line_end (Is []) [] refl)

pub ended_opens : (all : List Lexical) (at : ℕ) → at ≤ length all → (Next all at line_end → ⊥) → Leads all (Spells ended_text) LineOn AnyRest at at
ended_opens all at within none = first all ended_text LineOn AnyRest at within (λ tree rest h b. ended_line all at none tree rest h)
    (λ text t. record { tree = Some t.one.tree; spelled = pasted line_text (Tok line_end (Is [])) text _ t (pasted_sign line_end (Is []) t.second _ t.other (sym t.other.other)) })

pub end_follows : (E : List Lexical → Type 0) → Follows (Tok line_end (Is [])) E (Behind is_line_end)
end_follows E = token_follows (λ y. y ≡ line_end) (Is []) E is_line_end (λ x e. ap is_line_end e)

-- ---- lines

-- lines that are left
pub lines_to : List Lexical → ℕ → ℕ → Type 0
lines_to all at mid = Leads all (Spells lines_text) (Spells lines_text) (Is []) at mid

-- a line and others behind it
abbrev pub MoreLines : List Lexical → Type 0
MoreLines = Then (Spells ended_text) (Spells lines_text)

lines_parts : (l : Option Line) (ls : List (Option Line)) → lines_text (l ∷ ls) ≡ ended_text l ++ lines_text ls
lines_parts None ls = refl
lines_parts (Some l) ls = sym (append_assoc (line_text l) (line_end ∷ []) (lines_text ls))

some_lines : (all : List Lexical) (mid : ℕ) → mid < length all → (tree : List (Option Line)) (rest : List Lexical) → Heads all mid (lines_text tree ++ rest) → rest ≡ [] → MoreLines (lines_text tree)
some_lines all mid more [] rest h e = absurd (omega (arith, more, h.none e))
some_lines all mid more (l ∷ ls) rest h e = subst MoreLines (sym (lines_parts l ls)) (tree_in ended_text (Spells lines_text) l (lines_text ls) (a_spelling lines_text ls))

lines_want : (all : List Lexical) (at mid : ℕ) → lines_to all at mid → mid < length all → Leads all (Spells lines_text) MoreLines (Is []) at mid
unfolding lines_to
lines_want all at mid h more = refined_tree all (Spells lines_text) lines_text MoreLines (Is []) at mid h (some_lines all mid more)
    (λ text t. record { tree = t.one.tree ∷ t.other.tree; spelled = lines_parts t.one.tree t.other.tree ∙ pasted ended_text (Spells lines_text) text _ t t.other.spelled })

pub lines_start : (all : List Lexical) (at : ℕ) → at ≤ length all → lines_to all at at
unfolding lines_to
lines_start all at within = start all (Spells lines_text) (Is []) at within

lines_made : (all : List Lexical) (at next : ℕ) → Leads all (Spells lines_text) (Spells lines_text) (Is []) at next → lines_to all at next
unfolding lines_to
lines_made all at next h = h

pub lines_go : (all : List Lexical) (at mid next : ℕ) → lines_to all at mid → mid < length all → Reads all mid next (Spells ended_text) → Ends all (Spells ended_text) AnyRest mid next → lines_to all at next
lines_go all at mid next h more r e = lines_made all at next (part_on (lines_want all at mid h more) r e (λ text rest q b. tt))

pub lines_stop : (all : List Lexical) (at mid : ℕ) (s : Stop) → lines_to all at mid → mid < length all → Halts (Stops all (Spells ended_text) AnyRest mid) s → Halts (Stops all (Spells lines_text) (Is []) at) s
lines_stop all at mid s h more k = no_part s AnyRest (lines_want all at mid h more) (a_spelling lines_text []) (λ text rest q b. tt) k

-- ---- files

-- a file is left behind lines that say nothing
pub file_to : List Lexical → ℕ → Type 0
file_to all at = Leads all (Spells file_text) (Spells file_text) (Is []) 0 at

pub file_start : (all : List Lexical) → file_to all 0
unfolding file_to
file_start all = start all (Spells file_text) (Is []) 0 (omega arith)

skip_tree : (all : List Lexical) (mid : ℕ) → Next all mid line_end → (before : ℕ) (lines : List (Option Line)) (rest : List Lexical) → Heads all mid (file_text (record { before = before; lines = lines }) ++ rest) → Tok line_end (Spells file_text) (file_text (record { before = before; lines = lines }))
skip_tree all mid n zero lines rest h = absurd (not_head all mid line_end (key "kernel") _ (λ x. not (is_line_end x)) h n refl refl)
skip_tree all mid n (suc before) lines rest h = tok_in line_end (Spells file_text) (file_text (record { before = before; lines = lines })) (a_spelling file_text (record { before = before; lines = lines }))

skip_back : (text : List Lexical) → Tok line_end (Spells file_text) text → Spells file_text text
skip_back text t = let k = tok_out line_end (Spells file_text) text t in record { tree = record { before = suc k.2.tree.before; lines = k.2.tree.lines }; spelled = ap (λ xs. line_end ∷ xs) k.2.spelled ∙ sym k.1 }

pub file_skip : (all : List Lexical) (mid next : ℕ) → file_to all mid → next ≡ mid + 1 → Next all mid line_end → file_to all next
unfolding file_to
file_skip all mid next h e n = sign_on (refined_tree all (Spells file_text) file_text (Tok line_end (Spells file_text)) (Is []) 0 mid h (λ tree rest k b. skip_tree all mid n tree.before tree.lines rest k) skip_back) (e, n)

-- the head of a file and its lines
abbrev pub HeadOn : List Lexical → Type 0
HeadOn = Then (Is head_text) (Spells lines_text)

head_tree : (all : List Lexical) (mid : ℕ) → (Next all mid line_end → ⊥) → (before : ℕ) (lines : List (Option Line)) (rest : List Lexical) → Heads all mid (file_text (record { before = before; lines = lines }) ++ rest) → HeadOn (file_text (record { before = before; lines = lines }))
head_tree all mid none zero lines rest h = then_in (Is head_text) (Spells lines_text) head_text (lines_text lines) refl (a_spelling lines_text lines)
head_tree all mid none (suc before) lines rest h = absurd (none (h.some line_end _ refl))

pub file_head : (all : List Lexical) (mid : ℕ) → file_to all mid → (Next all mid line_end → ⊥) → Leads all (Spells file_text) HeadOn (Is []) 0 mid
unfolding file_to
file_head all mid h none = refined_tree all (Spells file_text) file_text HeadOn (Is []) 0 mid h (λ tree rest k b. head_tree all mid none tree.before tree.lines rest k)
    (λ text t. record { tree = record { before = 0; lines = t.other.tree }; spelled = ap (λ xs. head_text ++ xs) t.other.spelled ∙ ap (λ xs. xs ++ t.second) (sym t.one) ∙ sym t.whole })

pub refuses : (all : List Lexical) (s : Stop) → Halts (Stops all (Spells file_text) (Is []) 0) s → Halts (RefusesFile all) s
refuses all s h = halts (Stops all (Spells file_text) (Is []) 0) (RefusesFile all) s (λ last k. record {
  within = k.within;
  none = λ others same f. k.none others [] same (record { text = others; here = sym (append-nil others); is = f; behind = refl });
  begun = k.begun;
}) h

pub head_stop : (all : List Lexical) (mid : ℕ) (s : Stop) → file_to all mid → (Next all mid line_end → ⊥) → (mid ≤ length all → Halts (Stops all (Is head_text) AnyRest mid) s) → Halts (RefusesFile all) s
head_stop all mid s h none k = let l = file_head all mid h none in refuses all s (no_part s AnyRest l (a_spelling lines_text []) (λ text rest q b. tt) (k l.within))

pub entries_stop : (all : List Lexical) (mid next : ℕ) (s : Stop) → file_to all mid → (Next all mid line_end → ⊥) → Reads all mid next (Is head_text) → Ends all (Is head_text) AnyRest mid next → Halts (Stops all (Spells lines_text) (Is []) next) s → Halts (RefusesFile all) s
entries_stop all mid next s h none r e k = refuses all s (no_last s (part_on (file_head all mid h none) r e (λ text rest q b. tt)) (λ rest b. b) k)

flipped : (b : Bool) → false ≡ not b → b ≡ true
flipped true e = refl
flipped false e = absurd (cc)

dropped : (b : Bool) → true ≡ not b → b ≡ false
dropped true e = absurd (cc)
dropped false e = refl

pub equal : (d u t : List ℕ) → u ≡ t → false ≡ not (bytes_eq d u) → bytes_eq d t ≡ true
equal d u t same e = ap (bytes_eq d) (sym same) ∙ flipped (bytes_eq d u) e

pub unequal : (d u t : List ℕ) → u ≡ t → true ≡ not (bytes_eq d u) → bytes_eq d t ≡ false
unequal d u t same e = ap (bytes_eq d) (sym same) ∙ dropped (bytes_eq d u) e

pub lines_below : (lexemes : List Lexeme) (at : ℕ) → at < length lexemes → at < length (texts lexemes)
lines_below lexemes at h = let e : length (texts lexemes) ≡ length lexemes = length-map lexemes text_of in omega (arith, h, e)
