-- Where lines end, and why none stand there.
use Rattle.std.proofs.Common.{◌≡◌, ◌<◌, ◌≤◌, ◌+◌, ℕ, Bool, true, false, not, nat_lt, ◌||◌, codes, List, [], ◌∷◌, ◌++◌, map, take, drop, length, length-take, drop-drop, take_at, ap, sym, refl, ◌∙◌, subst, append_assoc, arith, ◌⊎◌, inl, inr, Option, Some, None, MatchOption, Result, Ok, Err, IfOk, IfErr}
use Rattle.std.proofs.lemmas.Bool.Decides.{nat_tests}
use Rattle.std.proofs.lemmas.List.{append-nil, drop-append-le, drop-take}
use Rattle.kernel_grammar.specs.declared.item.Item as item
use Rattle.kernel_grammar.specs.Syntax.{item_of}
use Rattle.wrap_words.specs.declared.kind.Kind.{Kind}
use Rattle.wrap_words.specs.declared.kind.Kind.TheVariants.{I32}
use Rattle.kind_faults.specs.Words.{kind_word}
use Rattle.kernel_grammar.specs.declared.item.Stored.{Stored}
use Rattle.kernel_grammar.specs.declared.item.Stored.TheVariants.{Plain, Update}
use Rattle.kernel_grammar.specs.declared.item.Declared.{Declared}
use Rattle.kernel_grammar.specs.declared.item.Declared.TheVariants.{Not as undeclared, Inferred, Of}
use Rattle.kernel_grammar.specs.declared.step.Extreme.TheVariants.{Min, Max}
use Rattle.kernel_grammar.specs.declared.step.Folding.TheVariants as folding
use Rattle.kernel_grammar.specs.Lexicals.{Lexical, word, line_end, key, mark, listed}
use Rattle.kernel_grammar.specs.Words.{Name, is_reserved}
use Rattle.kernel_grammar.specs.Trees.{Sums, Or}
use Rattle.kernel_grammar.specs.Spelling.{name_text, names_text, or_text}
use Rattle.kernel_grammar.specs.Lines.{Chain, Insn, Line, domain, assume, input, output, temp, rule, insn, chain_text, ruled_text, typed_text, numbers_text, declared_text, place_text, stored_text, options_text, insn_text, line_text}
use Rattle.kernel_expressions.specs.declared.stop.Stop.{Stop}
use Rattle.kernel_expressions.specs.declared.key.Key as keys
use Rattle.kernel_expressions.specs.declared.key.Key.TheVariants as keyed
use Rattle.kernel_expressions.specs.Keys.{key_text}
use Rattle.kernel_expressions.specs.Reads.{Next, Reads, IsItem, bracketed, word_of}
use Rattle.kernel_expressions.specs.Settled.{AnyRest, Behind, Ends, Halts, SameTo, Spells, SpellsList, Stands, Stops, ends_level, is_mark}
use Rattle.kernel_expressions.proofs.Join.{as_well, text_length}
use Rattle.kernel_syntax.specs.Behinds.{is_key, is_name, is_word, is_line_end, is_other, ends_conditions, ends_ruled}
use Rattle.kernel_syntax.specs.Parts.{Is, array_word, array_text, assume_text, domain_text, named_kind_text, rule_text, temp_text}
use Rattle.kernel_syntax.proofs.Leads.{Heads, Leads, Then, Token, Tok, MayBegin, not_there, begins, first, absent, next_within, next_same, start, refused, opens, no_rest, tok_in, tok_out, any_in, a_spelling, IsNameToken, IsKindToken, both, weaker, some_name, Follows, an_or, tree_in, name_in, pasted, pasted_name, pasted_sign, token_follows, heads, same_to, some_head, halts}
use Rattle.kernel_syntax.proofs.InsnEnds.{line_end_rest, CellOn, PlaceOn, insn_back, some_place}

-- ---- conditions behind a sign

may_rule : (cs : List Chain) → MayBegin (λ x. x ≡ mark ":") (ruled_text cs)
may_rule [] = not_there refl
may_rule (c ∷ cs) = begins (mark ":") _ refl refl

pub unruled : (all : List Lexical) (at : ℕ) → at ≤ length all → (Next all at (mark ":") → ⊥) → Ends all (Spells ruled_text) (Behind ends_ruled) at at
unruled all at within none = absent all ruled_text (λ x. x ≡ mark ":") (Behind ends_ruled) at [] refl may_rule within (λ x e n. none (subst (λ (y : Lexical). Next all at y) e n))

ruled_tree : (all : List Lexical) (at : ℕ) → Next all at (mark ":") → (tree : List Chain) (rest : List Lexical) → Heads all at (ruled_text tree ++ rest) → Behind ends_ruled rest → Tok (mark ":") (SpellsList chain_text (key "and")) (ruled_text tree)
ruled_tree all at n [] rest h b = absurd (no_rest all at (mark ":") ends_ruled rest h n b refl)
ruled_tree all at n (c ∷ cs) rest h b = tok_in (mark ":") (SpellsList chain_text (key "and")) (listed (key "and") (map chain_text (c ∷ cs))) (record { first = c; more = cs; spelled = refl })

pub ruled_opens : (all : List Lexical) (at : ℕ) → Next all at (mark ":") → Leads all (Spells ruled_text) (Tok (mark ":") (SpellsList chain_text (key "and"))) (Behind ends_ruled) at at
ruled_opens all at n = first all ruled_text (Tok (mark ":") (SpellsList chain_text (key "and"))) (Behind ends_ruled) at (next_within all at (mark ":") n) (ruled_tree all at n)
    (λ text t. let k = tok_out (mark ":") (SpellsList chain_text (key "and")) text t in record { tree = k.2.first ∷ k.2.more; spelled = ap (λ xs. mark ":" ∷ xs) k.2.spelled ∙ sym k.1 })

pub ruled_rest : (rest : List Lexical) → Behind ends_ruled rest → Behind ends_conditions rest
ruled_rest rest b = weaker ends_ruled ends_conditions (λ x e. (both (ends_conditions x) _ e).0) rest b

-- ---- domains

-- names and the sign behind them
abbrev pub names_close : Lexical → List Name → List Lexical
names_close close list = names_text list ++ close ∷ []

-- the parts of a domain, from the last
abbrev pub Closed : List Lexical → Type 0
Closed = Tok (mark "}") (Is [])

abbrev pub RuledOn : List Lexical → Type 0
RuledOn = Then (Spells ruled_text) Closed

abbrev pub MadeOn : List Lexical → Type 0
MadeOn = Then (Spells (names_close (mark "]"))) RuledOn

abbrev pub ArrowOn : List Lexical → Type 0
ArrowOn = Tok (mark "->") (Tok (mark "{") (Tok (mark "[") MadeOn))

abbrev pub KnownOn : List Lexical → Type 0
KnownOn = Then (Spells (names_close (mark "]"))) ArrowOn

pub some_closed : Closed (mark "}" ∷ [])
some_closed = tok_in (mark "}") (Is []) [] refl

pub some_ruled : RuledOn (mark "}" ∷ [])
some_ruled = tree_in ruled_text Closed [] (mark "}" ∷ []) some_closed

pub some_made : MadeOn (mark "]" ∷ mark "}" ∷ [])
some_made = tree_in (names_close (mark "]")) RuledOn [] (mark "}" ∷ []) some_ruled

pub some_inner : Tok (mark "[") MadeOn (mark "[" ∷ mark "]" ∷ mark "}" ∷ [])
some_inner = tok_in (mark "[") MadeOn _ some_made

pub some_brace : Tok (mark "{") (Tok (mark "[") MadeOn) (mark "{" ∷ mark "[" ∷ mark "]" ∷ mark "}" ∷ [])
some_brace = tok_in (mark "{") (Tok (mark "[") MadeOn) _ some_inner

pub some_arrow : ArrowOn (mark "->" ∷ mark "{" ∷ mark "[" ∷ mark "]" ∷ mark "}" ∷ [])
some_arrow = tok_in (mark "->") (Tok (mark "{") (Tok (mark "[") MadeOn)) _ some_brace

pub some_known : KnownOn (mark "]" ∷ mark "->" ∷ mark "{" ∷ mark "[" ∷ mark "]" ∷ mark "}" ∷ [])
some_known = tree_in (names_close (mark "]")) ArrowOn [] _ some_arrow

four_parts : (a b c d : List Lexical) → ((a ++ b) ++ c) ++ d ≡ a ++ (b ++ (c ++ d))
four_parts a b c d = simp append_assoc

domain_parts : (k m r : List Lexical) → key "domain" ∷ (mark "[" ∷ k ++ mark "]" ∷ []) ++ mark "->" ∷ mark "{" ∷ (mark "[" ∷ m ++ mark "]" ∷ []) ++ r ++ mark "}" ∷ []
    ≡ key "domain" ∷ mark "[" ∷ ((k ++ mark "]" ∷ []) ++ (mark "->" ∷ mark "{" ∷ mark "[" ∷ ((m ++ mark "]" ∷ []) ++ (r ++ mark "}" ∷ []))))
domain_parts k m r = four_parts (key "domain" ∷ mark "[" ∷ (k ++ mark "]" ∷ [])) (mark "->" ∷ mark "{" ∷ mark "[" ∷ (m ++ mark "]" ∷ [])) r (mark "}" ∷ [])

domain_forth : (d : List Name × List Name × List Chain) → Tok (key "domain") (Tok (mark "[") KnownOn) (domain_text d)
domain_forth (known, made, conds) = subst (Tok (key "domain") (Tok (mark "[") KnownOn)) (sym (domain_parts (names_text known) (names_text made) (ruled_text conds)))
    (tok_in (key "domain") (Tok (mark "[") KnownOn) _ (tok_in (mark "[") KnownOn _ (tree_in (names_close (mark "]")) ArrowOn known _
    (tok_in (mark "->") (Tok (mark "{") (Tok (mark "[") MadeOn)) _ (tok_in (mark "{") (Tok (mark "[") MadeOn) _ (tok_in (mark "[") MadeOn _
    (tree_in (names_close (mark "]")) RuledOn made _ (tree_in ruled_text Closed conds (mark "}" ∷ []) some_closed))))))))

domain_back : (text : List Lexical) → Tok (key "domain") (Tok (mark "[") KnownOn) text → Spells domain_text text
domain_back text d = let k = d.other.other in let a = k.other in let m = a.other.other.other in let r = m.other in record {
  tree = (k.one.tree, m.one.tree, r.one.tree);
  spelled = domain_parts (names_text k.one.tree) (names_text m.one.tree) (ruled_text r.one.tree)
      ∙ pasted_sign (key "domain") (Tok (mark "[") KnownOn) text _ d (pasted_sign (mark "[") KnownOn d.second _ d.other (pasted (names_close (mark "]")) ArrowOn d.other.second _ k
      (pasted_sign (mark "->") (Tok (mark "{") (Tok (mark "[") MadeOn)) k.second _ a (pasted_sign (mark "{") (Tok (mark "[") MadeOn) a.second _ a.other (pasted_sign (mark "[") MadeOn a.other.second _ a.other.other
      (pasted (names_close (mark "]")) RuledOn a.other.other.second _ m (pasted ruled_text Closed m.second _ r (pasted_sign (mark "}") (Is []) r.second _ r.other (sym r.other.other)))))))));
}

pub domain_opens : (all : List Lexical) (at : ℕ) → Next all at (key "domain") → Leads all (Spells domain_text) (Tok (mark "[") KnownOn) AnyRest at (at + 1)
domain_opens all at n = opens all domain_text (key "domain") (Tok (mark "[") KnownOn) AnyRest at domain_forth domain_back n

pub brace_follows : (E : List Lexical → Type 0) → Follows Closed E (Behind ends_ruled)
brace_follows E = token_follows (λ y. y ≡ mark "}") (Is []) E ends_ruled (λ x e. ap ends_ruled e)

-- ---- names with their kinds

-- the parts of a name with its kind
abbrev pub KindOn : List Lexical → Type 0
KindOn = Then (Token IsKindToken) (Is [])

abbrev pub NamedOn : List Lexical → Type 0
NamedOn = Then (Token IsNameToken) (Tok (mark ":") KindOn)

pub some_kind : KindOn (word (kind_word I32) ∷ [])
some_kind = any_in IsKindToken (Is []) (word (kind_word I32)) [] (I32, refl) refl

pub some_typed : Tok (mark ":") KindOn (mark ":" ∷ word (kind_word I32) ∷ [])
some_typed = tok_in (mark ":") KindOn _ some_kind

pasted_kind : (Q : List Lexical → Type 0) (text u : List Lexical) → (h : Then (Token IsKindToken) Q text) → u ≡ h.second → word (kind_word h.one.is.0) ∷ u ≡ text
pasted_kind Q text u h e = ap (λ (y : Lexical). y ∷ u) (sym h.one.is.1) ∙ ap (λ xs. h.one.token ∷ xs) e ∙ ap (λ xs. xs ++ h.second) (sym h.one.whole) ∙ sym h.whole

typed_forth : (t : Name × Kind) → NamedOn (named_kind_text t)
typed_forth (name, kind) = name_in (Tok (mark ":") KindOn) name _ (tok_in (mark ":") KindOn _ (any_in IsKindToken (Is []) (word (kind_word kind)) [] (kind, refl) refl))

pub typed_start : (all : List Lexical) (at : ℕ) → at ≤ length all → Leads all (Spells named_kind_text) NamedOn AnyRest at at
typed_start all at within = first all named_kind_text NamedOn AnyRest at within (λ tree rest h b. typed_forth tree)
    (λ text t. record { tree = (t.one.is.0, t.other.other.one.is.0); spelled = pasted_name (Tok (mark ":") KindOn) text _ t (pasted_sign (mark ":") KindOn t.second _ t.other (pasted_kind (Is []) t.other.second _ t.other.other (sym t.other.other.other))) })

-- what is read is a name with its kind
pub spelled_pair : {S : Type 0} {w : List ℕ} {all : List Lexical} {a b : ℕ} (kind : Kind) → Reads all a b (IsItem S (λ (name : Name). typed_text name kind) word_of w) → Reads all a b (Spells named_kind_text)
spelled_pair {S} {w} {all} {a} {b} kind h = as_well all a b (IsItem S (λ (name : Name). typed_text name kind) word_of w) (Spells named_kind_text) h (λ t i. record { tree = (i.tree, kind); spelled = i.spelled })

pub some_named_kind : Spells named_kind_text (named_kind_text (some_name, I32))
some_named_kind = a_spelling named_kind_text (some_name, I32)

-- ---- arrays and temporaries

array_spelled : (stored : Bool) (a : Name × Kind × Sums) → array_text stored a ≡ array_word stored ∷ (named_kind_text (a.0, a.1) ++ bracketed a.2)
array_spelled true a = refl
array_spelled false a = refl

-- the parts of an array
abbrev pub ArrayOn : List Lexical → Type 0
ArrayOn = Then (Spells named_kind_text) (Spells bracketed)

pub array_opens : (all : List Lexical) (at : ℕ) (stored : Bool) → Next all at (array_word stored) → Leads all (Spells (array_text stored)) ArrayOn AnyRest at (at + 1)
array_opens all at stored n = opens all (array_text stored) (array_word stored) ArrayOn AnyRest at
    (λ a. subst (Tok (array_word stored) ArrayOn) (sym (array_spelled stored a)) (tok_in (array_word stored) ArrayOn _ (tree_in named_kind_text (Spells bracketed) (a.0, a.1) (bracketed a.2) (a_spelling bracketed a.2))))
    (λ text t. let a = t.other in record {
      tree = (a.one.tree.0, a.one.tree.1, a.other.tree);
      spelled = array_spelled stored (a.one.tree.0, a.one.tree.1, a.other.tree)
          ∙ pasted_sign (array_word stored) ArrayOn text _ t (pasted named_kind_text (Spells bracketed) t.second _ a a.other.spelled);
    }) n

-- the parts of a temporary
abbrev pub TempOn : List Lexical → Type 0
TempOn = Then (Spells named_kind_text) (Spells numbers_text)

pub temp_opens : (all : List Lexical) (at : ℕ) → Next all at (key "temp") → Leads all (Spells temp_text) TempOn (Behind (is_other (codes "["))) at (at + 1)
temp_opens all at n = opens all temp_text (key "temp") TempOn (Behind (is_other (codes "["))) at
    (λ a. tok_in (key "temp") TempOn _ (tree_in named_kind_text (Spells numbers_text) (a.0, a.1) (numbers_text a.2) (a_spelling numbers_text a.2)))
    (λ text t. let a = t.other in record { tree = (a.one.tree.0, a.one.tree.1, a.other.tree); spelled = pasted_sign (key "temp") TempOn text _ t (pasted named_kind_text (Spells numbers_text) t.second _ a a.other.spelled) }) n

-- ---- rules

-- the parts of a rule, from the last
abbrev pub BodyOn : List Lexical → Type 0
BodyOn = Tok (mark ":=") (Spells or_text)

abbrev pub ParamsOn : List Lexical → Type 0
ParamsOn = Then (Spells (names_close (mark ")"))) BodyOn

abbrev pub RuleOn : List Lexical → Type 0
RuleOn = Then (Token IsNameToken) (Tok (mark "(") ParamsOn)

pub some_body : BodyOn (mark ":=" ∷ or_text an_or)
some_body = tok_in (mark ":=") (Spells or_text) (or_text an_or) (a_spelling or_text an_or)

pub some_params : ParamsOn (mark ")" ∷ mark ":=" ∷ or_text an_or)
some_params = tree_in (names_close (mark ")")) BodyOn [] _ some_body

pub some_rule : Tok (mark "(") ParamsOn (mark "(" ∷ mark ")" ∷ mark ":=" ∷ or_text an_or)
some_rule = tok_in (mark "(") ParamsOn _ some_params

rule_parts : (w p : List Lexical) (o : List Lexical) → w ++ (mark "(" ∷ p ++ mark ")" ∷ []) ++ mark ":=" ∷ o ≡ w ++ (mark "(" ∷ ((p ++ mark ")" ∷ []) ++ (mark ":=" ∷ o)))
rule_parts w p o = simp append_assoc

rule_forth : (r : Name × List Name × Or) → RuleOn (rule_text r)
rule_forth (name, params, body) = subst RuleOn (sym (rule_parts (name_text name) (names_text params) (or_text body)))
    (name_in (Tok (mark "(") ParamsOn) name _ (tok_in (mark "(") ParamsOn _ (tree_in (names_close (mark ")")) BodyOn params _ (tok_in (mark ":=") (Spells or_text) (or_text body) (a_spelling or_text body)))))

rule_back : (text : List Lexical) → RuleOn text → Spells rule_text text
rule_back text r = let p = r.other.other in record {
  tree = (r.one.is.0, p.one.tree, p.other.other.tree);
  spelled = rule_parts (name_text r.one.is.0) (names_text p.one.tree) (or_text p.other.other.tree)
      ∙ pasted_name (Tok (mark "(") ParamsOn) text _ r (pasted_sign (mark "(") ParamsOn r.second _ r.other (pasted (names_close (mark ")")) BodyOn r.other.second _ p (pasted_sign (mark ":=") (Spells or_text) p.second _ p.other p.other.other.spelled)));
}

pub rule_start : (all : List Lexical) (at : ℕ) → at ≤ length all → Leads all (Spells rule_text) RuleOn (Behind (ends_level 1)) at at
rule_start all at within = first all rule_text RuleOn (Behind (ends_level 1)) at within (λ tree rest h b. rule_forth tree) rule_back

-- ---- assumptions

pub assume_opens : (all : List Lexical) (at : ℕ) → Next all at (key "assume") → Leads all (Spells assume_text) (SpellsList chain_text (key "and")) (Behind ends_conditions) at (at + 1)
assume_opens all at n = opens all assume_text (key "assume") (SpellsList chain_text (key "and")) (Behind ends_conditions) at
    (λ a. tok_in (key "assume") (SpellsList chain_text (key "and")) _ (record { first = a.0; more = a.1; spelled = refl }))
    (λ text t. record { tree = (t.other.first, t.other.more); spelled = pasted_sign (key "assume") (SpellsList chain_text (key "and")) text _ t t.other.spelled }) n

-- ---- the choice of a line

-- the first token of an instruction
insn_head : Declared → Name → Lexical
insn_head undeclared cell = word cell.word
insn_head Inferred cell = mark "<"
insn_head (Of kind) cell = mark "<"

-- the first token of a line
pub line_head : Line → Lexical
line_head (domain known made conds) = key "domain"
line_head (assume chain chains) = key "assume"
line_head (input name kind shape) = key "input"
line_head (output name kind shape) = key "output"
line_head (temp name kind shape) = key "temp"
line_head (rule name params body) = word name.word
line_head (insn i) = insn_head i.declared i.cell

insn_parts : (d n r p s v o : List Lexical) → d ++ n ++ p ++ s ++ v ++ o ≡ d ++ (n ++ (p ++ (s ++ (v ++ o))))
insn_parts d n r p s v o = simp append_assoc

-- what stands behind the cell
abbrev pub behind_cell : Insn → List Lexical
behind_cell i = place_text i.place ++ (stored_text i.stored ++ (or_text i.value ++ options_text i.options))

insn_spelled : (i : Insn) → insn_text i ≡ declared_text i.declared ++ (word i.cell.word ∷ behind_cell i)
insn_spelled i = insn_parts (declared_text i.declared) (name_text i.cell) [] (place_text i.place) (stored_text i.stored) (or_text i.value) (options_text i.options)

declared_begins : (d : Declared) (cell : Name) (more : List Lexical) → (rest : List Lexical) × (declared_text d ++ (word cell.word ∷ more) ≡ insn_head d cell ∷ rest)
unfolding insn_head
declared_begins undeclared cell more = (_, refl)
declared_begins Inferred cell more = (_, refl)
declared_begins (Of kind) cell more = (_, refl)

pub line_begins : (l : Line) → (more : List Lexical) × (line_text l ≡ line_head l ∷ more)
unfolding line_head
line_begins (domain known made conds) = let k = tok_out (key "domain") (Tok (mark "[") KnownOn) (domain_text (known, made, conds)) (domain_forth (known, made, conds)) in (k.0, k.1)
line_begins (assume chain chains) = (_, refl)
line_begins (input name kind shape) = (_, refl)
line_begins (output name kind shape) = (_, refl)
line_begins (temp name kind shape) = (_, refl)
line_begins (rule name params body) = (_, refl)
line_begins (insn i) = let k = declared_begins i.declared i.cell (behind_cell i) in (k.0, insn_spelled i ∙ k.1)

-- the tokens that begin rules and instructions
pub begins_name : Lexical → Bool
begins_name x = is_name x || is_mark (codes "<") x

name_is : (n : Name) → is_name (word n.word) ≡ true
name_is n = ap not n.free

insn_begins : (d : Declared) (cell : Name) → begins_name (insn_head d cell) ≡ true
unfolding insn_head begins_name
insn_begins undeclared cell = ap (λ (b : Bool). b || false) (name_is cell)
insn_begins Inferred cell = refl
insn_begins (Of kind) cell = refl

no_begin : (w : List ℕ) → is_reserved w ≡ true → begins_name (word w) ≡ false
unfolding begins_name
no_begin w e = ap (λ (b : Bool). not b || false) e

rule_begins : (name : Name) → begins_name (word name.word) ≡ true
unfolding begins_name
rule_begins name = ap (λ (b : Bool). b || false) (name_is name)

apart : (f : Lexical → Bool) (x y : Lexical) → x ≡ y → f x ≡ true → f y ≡ false → ⊥
apart f x y e a b = let k : true ≡ false = sym a ∙ ap f e ∙ b in absurd (cc)

domain_tree : (tree : Line) → line_head tree ≡ key "domain" → Spells domain_text (line_text tree)
unfolding line_head
domain_tree (domain known made conds) e = a_spelling domain_text (known, made, conds)
domain_tree (assume chain chains) e = absurd (apart (is_word (codes "assume")) (key "assume") (key "domain") e refl refl)
domain_tree (input name kind shape) e = absurd (apart (is_word (codes "input")) (key "input") (key "domain") e refl refl)
domain_tree (output name kind shape) e = absurd (apart (is_word (codes "output")) (key "output") (key "domain") e refl refl)
domain_tree (temp name kind shape) e = absurd (apart (is_word (codes "temp")) (key "temp") (key "domain") e refl refl)
domain_tree (rule name params body) e = absurd (apart is_name (word name.word) (key "domain") e (name_is name) refl)
domain_tree (insn i) e = absurd (apart begins_name (insn_head i.declared i.cell) (key "domain") e (insn_begins i.declared i.cell) (no_begin (codes "domain") refl))

assume_tree : (tree : Line) → line_head tree ≡ key "assume" → Spells assume_text (line_text tree)
unfolding line_head
assume_tree (domain known made conds) e = absurd (apart (is_word (codes "domain")) (key "domain") (key "assume") e refl refl)
assume_tree (assume chain chains) e = a_spelling assume_text (chain, chains)
assume_tree (input name kind shape) e = absurd (apart (is_word (codes "input")) (key "input") (key "assume") e refl refl)
assume_tree (output name kind shape) e = absurd (apart (is_word (codes "output")) (key "output") (key "assume") e refl refl)
assume_tree (temp name kind shape) e = absurd (apart (is_word (codes "temp")) (key "temp") (key "assume") e refl refl)
assume_tree (rule name params body) e = absurd (apart is_name (word name.word) (key "assume") e (name_is name) refl)
assume_tree (insn i) e = absurd (apart begins_name (insn_head i.declared i.cell) (key "assume") e (insn_begins i.declared i.cell) (no_begin (codes "assume") refl))

input_tree : (tree : Line) → line_head tree ≡ key "input" → Spells (array_text false) (line_text tree)
unfolding line_head
input_tree (domain known made conds) e = absurd (apart (is_word (codes "domain")) (key "domain") (key "input") e refl refl)
input_tree (assume chain chains) e = absurd (apart (is_word (codes "assume")) (key "assume") (key "input") e refl refl)
input_tree (input name kind shape) e = a_spelling (array_text false) (name, kind, shape)
input_tree (output name kind shape) e = absurd (apart (is_word (codes "output")) (key "output") (key "input") e refl refl)
input_tree (temp name kind shape) e = absurd (apart (is_word (codes "temp")) (key "temp") (key "input") e refl refl)
input_tree (rule name params body) e = absurd (apart is_name (word name.word) (key "input") e (name_is name) refl)
input_tree (insn i) e = absurd (apart begins_name (insn_head i.declared i.cell) (key "input") e (insn_begins i.declared i.cell) (no_begin (codes "input") refl))

output_tree : (tree : Line) → line_head tree ≡ key "output" → Spells (array_text true) (line_text tree)
unfolding line_head
output_tree (domain known made conds) e = absurd (apart (is_word (codes "domain")) (key "domain") (key "output") e refl refl)
output_tree (assume chain chains) e = absurd (apart (is_word (codes "assume")) (key "assume") (key "output") e refl refl)
output_tree (input name kind shape) e = absurd (apart (is_word (codes "input")) (key "input") (key "output") e refl refl)
output_tree (output name kind shape) e = a_spelling (array_text true) (name, kind, shape)
output_tree (temp name kind shape) e = absurd (apart (is_word (codes "temp")) (key "temp") (key "output") e refl refl)
output_tree (rule name params body) e = absurd (apart is_name (word name.word) (key "output") e (name_is name) refl)
output_tree (insn i) e = absurd (apart begins_name (insn_head i.declared i.cell) (key "output") e (insn_begins i.declared i.cell) (no_begin (codes "output") refl))

temp_tree : (tree : Line) → line_head tree ≡ key "temp" → Spells temp_text (line_text tree)
unfolding line_head
temp_tree (domain known made conds) e = absurd (apart (is_word (codes "domain")) (key "domain") (key "temp") e refl refl)
temp_tree (assume chain chains) e = absurd (apart (is_word (codes "assume")) (key "assume") (key "temp") e refl refl)
temp_tree (input name kind shape) e = absurd (apart (is_word (codes "input")) (key "input") (key "temp") e refl refl)
temp_tree (output name kind shape) e = absurd (apart (is_word (codes "output")) (key "output") (key "temp") e refl refl)
temp_tree (temp name kind shape) e = a_spelling temp_text (name, kind, shape)
temp_tree (rule name params body) e = absurd (apart is_name (word name.word) (key "temp") e (name_is name) refl)
temp_tree (insn i) e = absurd (apart begins_name (insn_head i.declared i.cell) (key "temp") e (insn_begins i.declared i.cell) (no_begin (codes "temp") refl))

-- the first token of the line is the one that stands there
line_head_is : (all : List Lexical) (at : ℕ) (x : Lexical) (tree : Line) (rest : List Lexical) → Heads all at (line_text tree ++ rest) → Next all at x → line_head tree ≡ x
line_head_is all at x tree rest h n = let k = line_begins tree in next_same all at (line_head tree) x (h.some (line_head tree) (k.0 ++ rest) (ap (λ xs. xs ++ rest) k.1)) n

pub domain_line : (all : List Lexical) (at : ℕ) → Next all at (key "domain") → Leads all (Spells line_text) (Spells domain_text) (Behind is_line_end) at at
domain_line all at n = first all line_text (Spells domain_text) (Behind is_line_end) at (next_within all at (key "domain") n) (λ tree rest h b. domain_tree tree (line_head_is all at (key "domain") tree rest h n))
    (λ text s. record { tree = domain s.tree.0 s.tree.1 s.tree.2; spelled = s.spelled })

pub assume_line : (all : List Lexical) (at : ℕ) → Next all at (key "assume") → Leads all (Spells line_text) (Spells assume_text) (Behind is_line_end) at at
assume_line all at n = first all line_text (Spells assume_text) (Behind is_line_end) at (next_within all at (key "assume") n) (λ tree rest h b. assume_tree tree (line_head_is all at (key "assume") tree rest h n))
    (λ text s. record { tree = assume s.tree.0 s.tree.1; spelled = s.spelled })

pub input_line : (all : List Lexical) (at : ℕ) → Next all at (key "input") → Leads all (Spells line_text) (Spells (array_text false)) (Behind is_line_end) at at
input_line all at n = first all line_text (Spells (array_text false)) (Behind is_line_end) at (next_within all at (key "input") n) (λ tree rest h b. input_tree tree (line_head_is all at (key "input") tree rest h n))
    (λ text s. record { tree = input s.tree.0 s.tree.1 s.tree.2; spelled = s.spelled })

pub output_line : (all : List Lexical) (at : ℕ) → Next all at (key "output") → Leads all (Spells line_text) (Spells (array_text true)) (Behind is_line_end) at at
output_line all at n = first all line_text (Spells (array_text true)) (Behind is_line_end) at (next_within all at (key "output") n) (λ tree rest h b. output_tree tree (line_head_is all at (key "output") tree rest h n))
    (λ text s. record { tree = output s.tree.0 s.tree.1 s.tree.2; spelled = s.spelled })

pub temp_line : (all : List Lexical) (at : ℕ) → Next all at (key "temp") → Leads all (Spells line_text) (Spells temp_text) (Behind is_line_end) at at
temp_line all at n = first all line_text (Spells temp_text) (Behind is_line_end) at (next_within all at (key "temp") n) (λ tree rest h b. temp_tree tree (line_head_is all at (key "temp") tree rest h n))
    (λ text s. record { tree = temp s.tree.0 s.tree.1 s.tree.2; spelled = s.spelled })

-- the words with which lines begin
abbrev pub is_line_word : Lexical → Bool
is_line_word x = is_word (codes "domain") x || is_word (codes "assume") x || is_word (codes "input") x || is_word (codes "output") x || is_word (codes "temp") x

pub line_word : (tree : Line) → (is_line_word (line_head tree) ≡ true) ⊎ (begins_name (line_head tree) ≡ true)
unfolding line_head
line_word (domain known made conds) = inl refl
line_word (assume chain chains) = inl refl
line_word (input name kind shape) = inl refl
line_word (output name kind shape) = inl refl
line_word (temp name kind shape) = inl refl
line_word (rule name params body) = inr (rule_begins name)
line_word (insn i) = inr (insn_begins i.declared i.cell)

pub other_head : (x y : Lexical) → x ≡ y → (is_line_word x ≡ true) ⊎ (begins_name x ≡ true) → is_line_word y ≡ false → begins_name y ≡ false → ⊥
other_head x y e (inl k) a b = apart is_line_word x y e k a
other_head x y e (inr k) a b = apart begins_name x y e k b

-- a line
some_line : Line
some_line = domain [] [] []

no_line : (all : List Lexical) (at : ℕ) (x : Lexical) → Next all at x → is_line_word x ≡ false → begins_name x ≡ false → Stops all (Spells line_text) (Behind is_line_end) at at
no_line all at x n a b = refused all (Spells line_text) (Spells line_text) (Behind is_line_end) at at (line_text some_line) (start all (Spells line_text) (Behind is_line_end) at (next_within all at x n))
    (λ t rest h s e. other_head (line_head s.tree) x (line_head_is all at x s.tree rest (subst (λ xs. Heads all at (xs ++ rest)) (sym s.spelled) h) n) (line_word s.tree) a b) (a_spelling line_text some_line)

pub key_stop : (all : List Lexical) (at : ℕ) (k : keys.Key) → Next all at (word (key_text k)) → (k ≡ keyed.Domain → ⊥) → (k ≡ keyed.Assume → ⊥) → (k ≡ keyed.Input → ⊥) → (k ≡ keyed.Output → ⊥) → (k ≡ keyed.Temp → ⊥) → Stops all (Spells line_text) (Behind is_line_end) at at
key_stop all at keyed.Kernel n a b c d e = no_line all at (key "kernel") n refl (no_begin (codes "kernel") refl)
key_stop all at keyed.Domain n a b c d e = absurd (a refl)
key_stop all at keyed.Assume n a b c d e = absurd (b refl)
key_stop all at keyed.Input n a b c d e = absurd (c refl)
key_stop all at keyed.Output n a b c d e = absurd (d refl)
key_stop all at keyed.Temp n a b c d e = absurd (e refl)
key_stop all at keyed.Sum n a b c d e = no_line all at (key "sum") n refl (no_begin (codes "sum") refl)
key_stop all at keyed.Product n a b c d e = no_line all at (key "product") n refl (no_begin (codes "product") refl)
key_stop all at (keyed.Extreme Min) n a b c d e = no_line all at (key "min") n refl (no_begin (codes "min") refl)
key_stop all at (keyed.Extreme Max) n a b c d e = no_line all at (key "max") n refl (no_begin (codes "max") refl)
key_stop all at keyed.If n a b c d e = no_line all at (key "if") n refl (no_begin (codes "if") refl)
key_stop all at keyed.Cast n a b c d e = no_line all at (key "cast") n refl (no_begin (codes "cast") refl)
key_stop all at keyed.And n a b c d e = no_line all at (key "and") n refl (no_begin (codes "and") refl)
key_stop all at keyed.Or n a b c d e = no_line all at (key "or") n refl (no_begin (codes "or") refl)
key_stop all at keyed.Not n a b c d e = no_line all at (key "not") n refl (no_begin (codes "not") refl)

-- ---- rules and instructions

cons_heads : (x y : Lexical) (xs ys : List Lexical) → x ∷ xs ≡ y ∷ ys → (x ≡ y) × (xs ≡ ys)
cons_heads x y xs ys e = (cc, cc)

-- what stands behind the cell of an instruction begins with no parenthesis
behind_sign : (p : Option Sums) (st : Stored) (more : List Lexical) → (y : Lexical) × (u : List Lexical) × (is_mark (codes "(") y ≡ false) × (place_text p ++ (stored_text st ++ more) ≡ y ∷ u)
behind_sign (Some places) st more = (mark "[", _, refl, refl)
behind_sign None Plain more = (mark "=", _, refl, refl)
behind_sign None (Update folding.Sum) more = (mark "+=", _, refl, refl)
behind_sign None (Update folding.Product) more = (mark "*=", _, refl, refl)
behind_sign None (Update (folding.Extreme Min)) more = (key "min", _, refl, refl)
behind_sign None (Update (folding.Extreme Max)) more = (key "max", _, refl, refl)

no_insn : (n : Name) (d : Declared) (cell : Name) (y : Lexical) (u rest more : List Lexical) → is_mark (codes "(") y ≡ false → (declared_text d ++ (word cell.word ∷ y ∷ u)) ++ rest ≡ word n.word ∷ mark "(" ∷ more → ⊥
no_insn n undeclared cell y u rest more h e = let k = cons_heads _ _ _ _ e in apart (is_mark (codes "(")) (mark "(") y (sym (cons_heads _ _ _ _ k.1).0) refl h
no_insn n Inferred cell y u rest more h e = let k = cons_heads _ _ _ _ e in apart (is_mark (codes "<")) (mark "<") (word n.word) k.0 refl refl
no_insn n (Of kind) cell y u rest more h e = let k = cons_heads _ _ _ _ e in apart (is_mark (codes "<")) (mark "<") (word n.word) k.0 refl refl

rule_tree : (n : Name) (tree : Line) (rest more : List Lexical) → line_head tree ≡ word n.word → line_text tree ++ rest ≡ word n.word ∷ mark "(" ∷ more → Spells rule_text (line_text tree)
unfolding line_head
rule_tree n (domain known made conds) rest more e k = absurd (apart is_name (word n.word) (key "domain") (sym e) (name_is n) refl)
rule_tree n (assume chain chains) rest more e k = absurd (apart is_name (word n.word) (key "assume") (sym e) (name_is n) refl)
rule_tree n (input name kind shape) rest more e k = absurd (apart is_name (word n.word) (key "input") (sym e) (name_is n) refl)
rule_tree n (output name kind shape) rest more e k = absurd (apart is_name (word n.word) (key "output") (sym e) (name_is n) refl)
rule_tree n (temp name kind shape) rest more e k = absurd (apart is_name (word n.word) (key "temp") (sym e) (name_is n) refl)
rule_tree n (rule name params body) rest more e k = a_spelling rule_text (name, params, body)
rule_tree n (insn i) rest more e k = let b = behind_sign i.place i.stored (or_text i.value ++ options_text i.options) in
    absurd (no_insn n i.declared i.cell b.0 b.1 rest more b.2 (ap (λ xs. (declared_text i.declared ++ (word i.cell.word ∷ xs)) ++ rest) (sym b.3) ∙ ap (λ xs. xs ++ rest) (sym (insn_spelled i)) ∙ k))

-- the two tokens that stand there begin each list with the same tokens
two_there : (all others : List Lexical) (at last : ℕ) (x y : Lexical) → SameTo all others last → at + 1 ≤ last → Next all at x → Next all (at + 1) y → (more : List Lexical) × (drop at others ≡ x ∷ y ∷ more)
two_there all others at last x y same on n m =
    let h = some_head all at x (drop at others) (heads all others at (drop at others) (same_to all others at last (omega (arith, on)) same) refl) n in
    let k = some_head all (at + 1) y h.0 (heads all others (at + 1) h.0 (same_to all others (at + 1) last on same) (sym (drop-drop 1 at others) ∙ ap (λ xs. drop 1 xs) h.1)) m in
    (k.0, h.1 ∙ ap (λ xs. x ∷ xs) k.1)

rule_stands : (all others rest : List Lexical) (E F : List Lexical → Type 0) (at last : ℕ) (n : Name) → ((xs : List Lexical) → E xs → F xs) → SameTo all others last → at + 1 ≤ last → Next all at (word n.word) → Next all (at + 1) (mark "(")
    → Stands (Spells line_text) E others at rest → Stands (Spells rule_text) F others at rest
rule_stands all others rest E F at last n follows same on n1 n2 s =
    let t = two_there all others at last (word n.word) (mark "(") same on n1 n2 in
    let b = line_begins s.is.tree in
    let e : line_text s.is.tree ++ rest ≡ word n.word ∷ mark "(" ∷ t.0 = ap (λ xs. xs ++ rest) s.is.spelled ∙ sym s.here ∙ t.1 in
    record {
      text = s.text;
      here = s.here;
      is = subst (Spells rule_text) s.is.spelled (rule_tree n s.is.tree rest t.0 (cons_heads _ _ _ _ (ap (λ xs. xs ++ rest) (sym b.1) ∙ e)).0 e);
      behind = follows rest s.behind;
    }

take_front : (all u : List Lexical) (n : ℕ) → n ≤ length all → take n (take n all ++ u) ≡ take n all
take_front all u n h = take_at (take n all) u n (omega (arith, h, length-take n all))

past_if : (all : List Lexical) (P E : List Lexical → Type 0) (at last : ℕ) (x : Lexical) (u : List Lexical) (b : Bool) → nat_lt at last ≡ b → Stops all P E at last → Next all at x → P (x ∷ u) → E [] → at + 1 ≤ last
past_if all P E at last x u true t h n p e = let z : at < last = grind (arith, nat_tests, t) in omega (arith, z)
past_if all P E at last x u false t h n p e =
    let z : last ≤ at = grind (arith, nat_tests, t) in
    let same : last ≡ at = omega (arith, z, h.on) in
    let more : at + 1 ≤ length all = omega (arith, n.within) in
    let front : List Lexical = take (at + 1) all in
    let here : drop at (front ++ u) ≡ x ∷ u = drop-append-le at front u (omega (arith, more, length-take (at + 1) all)) ∙ ap (λ xs. xs ++ u) (drop-take at 1 all ∙ ap (λ xs. take 1 xs) n.here) in
    absurd (h.none (front ++ u) [] (subst (λ (m : ℕ). SameTo all (front ++ u) m) (sym same) (take_front all u (at + 1) more)) (record { text = x ∷ u; here = here ∙ sym (append-nil (x ∷ u)); is = p; behind = e }))

-- Where a text could begin with the token that stands there, that one is not refused.
past : (all : List Lexical) (P E : List Lexical → Type 0) (at last : ℕ) (x : Lexical) (u : List Lexical) → Stops all P E at last → Next all at x → P (x ∷ u) → E [] → at + 1 ≤ last
past all P E at last x u h n p e = past_if all P E at last x u (nat_lt at last) refl h n p e

rule_line : (text : List Lexical) → Spells rule_text text → Spells line_text text
rule_line text s = record { tree = rule s.tree.0 s.tree.1 s.tree.2; spelled = s.spelled }

insn_line : (text : List Lexical) → Spells insn_text text → Spells line_text text
insn_line text s = record { tree = insn s.tree; spelled = s.spelled }

line_end_level : (rest : List Lexical) → Behind is_line_end rest → Behind (ends_level 1) rest
line_end_level = line_end_rest (ends_level 1) refl

rule_stop : (all : List Lexical) (at last : ℕ) (n : Name) → Next all at (word n.word) → Next all (at + 1) (mark "(") → Stops all (Spells rule_text) (Behind (ends_level 1)) at last → Stops all (Spells line_text) (Behind is_line_end) at last
rule_stop all at last n n1 n2 h = record {
  on = h.on;
  within = h.within;
  none = λ others rest same s. h.none others rest same (rule_stands all others rest (Behind is_line_end) (Behind (ends_level 1)) at last n line_end_level same
      (past all (Spells rule_text) (Behind (ends_level 1)) at last (word n.word) _ h n1 (rule_back _ (name_in (Tok (mark "(") ParamsOn) n _ some_rule)) tt) n1 n2 s);
  begun = record { more = h.begun.more; is = rule_line _ h.begun.is };
}

-- a line takes a token
line_some : (S : Type 0) (v : item.Item) (all : List Lexical) (a b : ℕ) → Reads all a b (IsItem S line_text item_of v) → a + 1 ≤ b
line_some S v all a b h = let k = line_begins h.is.tree in omega (arith, text_length all a b (IsItem S line_text item_of v) h, ap length (sym k.1 ∙ h.is.spelled))

pub rule_ends_through : (S : Type 0) (all : List Lexical) (at : ℕ) (n : Name) (r : Result (item.Item × ℕ) Stop) → Next all at (word n.word) → Next all (at + 1) (mark "(") → IfOk r (λ read. Reads all at read.1 (IsItem S line_text item_of read.0))
    → IfOk r (λ read. Ends all (Spells rule_text) (Behind (ends_level 1)) at read.1) → IfOk r (λ read. Ends all (Spells line_text) (Behind is_line_end) at read.1)
rule_ends_through S all at n (Err s) n1 n2 k h = tt
rule_ends_through S all at n (Ok read) n1 n2 k h = record { ends = λ others rest same s. h.ends others rest same (rule_stands all others rest (Behind is_line_end) (Behind (ends_level 1)) at read.1 n line_end_level same (line_some S read.0 all at read.1 k) n1 n2 s) }

pub rule_stops_through : {T : Type 0} (all : List Lexical) (at : ℕ) (n : Name) (r : Result T Stop) → Next all at (word n.word) → Next all (at + 1) (mark "(") → IfErr r (Halts (Stops all (Spells rule_text) (Behind (ends_level 1)) at))
    → IfErr r (Halts (Stops all (Spells line_text) (Behind is_line_end) at))
rule_stops_through all at n (Ok read) n1 n2 h = tt
rule_stops_through all at n (Err s) n1 n2 h = halts (Stops all (Spells rule_text) (Behind (ends_level 1)) at) (Stops all (Spells line_text) (Behind is_line_end) at) s (λ last k. rule_stop all at last n n1 n2 k) h

no_key : (x : Lexical) → is_key x ≡ true → is_key x ≡ false → ⊥
no_key x a b = let k : true ≡ false = sym a ∙ b in absurd (cc)

insn_tree : (tree : Line) → is_key (line_head tree) ≡ false → ((r : Name × List Name × Or) → rule_text r ≡ line_text tree → ⊥) → Spells insn_text (line_text tree)
unfolding line_head
insn_tree (domain known made conds) k none = absurd (no_key (key "domain") refl k)
insn_tree (assume chain chains) k none = absurd (no_key (key "assume") refl k)
insn_tree (input name kind shape) k none = absurd (no_key (key "input") refl k)
insn_tree (output name kind shape) k none = absurd (no_key (key "output") refl k)
insn_tree (temp name kind shape) k none = absurd (no_key (key "temp") refl k)
insn_tree (rule name params body) k none = absurd (none (name, params, body) refl)
insn_tree (insn i) k none = a_spelling insn_text i

-- neither a word of the grammar nor a rule begins there
pub record BeginsNoOther (all : List Lexical) (at : ℕ) : Type 0 where
  pub keyless : (x : Lexical) → Next all at x → is_key x ≡ false
  pub ruleless : (n : Name) → Next all at (word n.word) → Next all (at + 1) (mark "(") → ⊥

no_rule : (all others rest : List Lexical) (at last : ℕ) (r : Name × List Name × Or) → BeginsNoOther all at → SameTo all others last → at ≤ last → ((n : Name) → Next all at (word n.word) → at + 1 ≤ last) → drop at others ≡ rule_text r ++ rest → ⊥
no_rule all others rest at last (name, params, body) none same on more e =
    let n1 : Next all at (word name.word) = (heads all others at (rule_text (name, params, body) ++ rest) (same_to all others at last on same) e).some (word name.word) _ refl in
    let next : at + 1 ≤ last = more name n1 in
    let n2 = (heads all others (at + 1) (drop 1 (rule_text (name, params, body) ++ rest)) (same_to all others (at + 1) last next same) (sym (drop-drop 1 at others) ∙ ap (λ xs. drop 1 xs) e)).some (mark "(") _ refl in
    none.ruleless name n1 n2

insn_stands : (all others rest : List Lexical) (E : List Lexical → Type 0) (at last : ℕ) → BeginsNoOther all at → SameTo all others last → at ≤ last → ((n : Name) → Next all at (word n.word) → at + 1 ≤ last)
    → Stands (Spells line_text) E others at rest → Stands (Spells insn_text) E others at rest
insn_stands all others rest E at last none same on more s =
    let b = line_begins s.is.tree in
    let e : drop at others ≡ line_text s.is.tree ++ rest = s.here ∙ ap (λ xs. xs ++ rest) (sym s.is.spelled) in
    let n = (heads all others at (line_text s.is.tree ++ rest) (same_to all others at last on same) e).some (line_head s.is.tree) (b.0 ++ rest) (ap (λ xs. xs ++ rest) b.1) in
    record {
      text = s.text;
      here = s.here;
      is = subst (Spells insn_text) s.is.spelled (insn_tree s.is.tree (none.keyless (line_head s.is.tree) n) (λ r k. no_rule all others rest at last r none same on more (e ∙ ap (λ xs. xs ++ rest) (sym k))));
      behind = s.behind;
    }

pub insn_ends_through : (S : Type 0) (all : List Lexical) (at : ℕ) (r : Result (item.Item × ℕ) Stop) → BeginsNoOther all at → IfOk r (λ read. Reads all at read.1 (IsItem S line_text item_of read.0)) → IfOk r (λ read. Ends all (Spells insn_text) (Behind is_line_end) at read.1)
    → IfOk r (λ read. Ends all (Spells line_text) (Behind is_line_end) at read.1)
insn_ends_through S all at (Err s) none k h = tt
insn_ends_through S all at (Ok read) none k h = record { ends = λ others rest same s. h.ends others rest same (insn_stands all others rest (Behind is_line_end) at read.1 none same k.on (λ n m. line_some S read.0 all at read.1 k) s) }

insn_stop : (all : List Lexical) (at last : ℕ) → BeginsNoOther all at → Stops all (Spells insn_text) (Behind is_line_end) at last → Stops all (Spells line_text) (Behind is_line_end) at last
insn_stop all at last none h = record {
  on = h.on;
  within = h.within;
  none = λ others rest same s. h.none others rest same (insn_stands all others rest (Behind is_line_end) at last none same h.on
      (λ n m. past all (Spells insn_text) (Behind is_line_end) at last (word n.word) _ h m (insn_back _ (tree_in declared_text CellOn undeclared _ (name_in PlaceOn n _ some_place))) tt) s);
  begun = record { more = h.begun.more; is = insn_line _ h.begun.is };
}

pub insn_stops_through : {T : Type 0} (all : List Lexical) (at : ℕ) (r : Result T Stop) → BeginsNoOther all at → IfErr r (Halts (Stops all (Spells insn_text) (Behind is_line_end) at)) → IfErr r (Halts (Stops all (Spells line_text) (Behind is_line_end) at))
insn_stops_through all at (Ok read) none h = tt
insn_stops_through all at (Err s) none h = halts (Stops all (Spells insn_text) (Behind is_line_end) at) (Stops all (Spells line_text) (Behind is_line_end) at) s (λ last k. insn_stop all at last none k) h

-- a name and a parenthesis
pub name_and : (all : List Lexical) (at : ℕ) (w : List ℕ) (r : Option ℕ) → is_reserved w ≡ false → Next all at (word w) → MatchOption r (Next all (at + 1) (mark "(") → ⊥) (λ next. (next ≡ (at + 1) + 1) × Next all (at + 1) (mark "("))
    → MatchOption r ((n : Name) → Next all at (word n.word) → Next all (at + 1) (mark "(") → ⊥) (λ next. (n : Name) × Next all at (word n.word) × Next all (at + 1) (mark "("))
name_and all at w None free n h = λ name m k. h k
name_and all at w (Some next) free n h = (record { word = w; free = free }, n, h.1)

-- which word stands there
pub this_key : (all : List Lexical) (at : ℕ) (k other : keys.Key) → k ≡ other → Next all at (word (key_text k)) → Next all at (word (key_text other))
this_key all at k other e n = subst (λ (j : keys.Key). Next all at (word (key_text j))) e n

pub no_begin_end : begins_name line_end ≡ false
unfolding begins_name
no_begin_end = refl
