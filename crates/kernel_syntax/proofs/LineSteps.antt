-- Lines that are read part by part.
use Rattle.std.proofs.Common.{◌≡◌, ◌≤◌, ◌+◌, ℕ, Bool, true, false, List, [], ◌∷◌, ◌++◌, map, length, ap, sym, refl, ◌∙◌, subst, append_assoc, Option, Some, None, Result, Ok, Err}
use Rattle.std.specs.Result.{IfOk}
use Rattle.kernel_expressions.specs.declared.stop.Stop.{Stop}
use Rattle.wrap_words.specs.declared.kind.Kind.{Kind}
use Rattle.kernel_grammar.specs.declared.step.Step.{Step}
use Rattle.kernel_grammar.specs.declared.item.Stored.{Stored}
use Rattle.kernel_grammar.specs.declared.item.Declared.{Declared}
use Rattle.kernel_grammar.specs.declared.item.Chain as chained
use Rattle.kernel_grammar.specs.declared.item.InsnOption as chosen
use Rattle.kernel_grammar.specs.declared.item.InsnOption.TheVariants as choice
use Rattle.kernel_grammar.specs.declared.item.Item.TheVariants as said
use Rattle.kernel_grammar.specs.Lexicals.{Lexical, number_in, word, key, mark}
use Rattle.kernel_grammar.specs.Words.{Name, words_of}
use Rattle.kind_faults.specs.Words.{kind_word}
use Rattle.kernel_grammar.specs.Trees.{Sums, Or}
use Rattle.kernel_grammar.specs.Spelling.{name_text, names_text, or_text}
use Rattle.kernel_grammar.specs.Steps.{or_steps, sums_steps}
use Rattle.kernel_grammar.specs.Lines.{InsnOption, id, dep, inames, condition, Line, domain, assume, input, output, temp, rule, insn, chain_text, ruled_text, typed_text, numbers_text, ids_text, option_text, options_text, declared_text, place_text, stored_text, line_text}
use Rattle.kernel_grammar.specs.Syntax.{chain_of, option_of, options_of, place_of, item_of}
use Rattle.kernel_syntax.specs.Parts.{Is, array_word}
use Rattle.kernel_expressions.specs.Reads.{Next, Reads, IsItem, IsList, IsNamesBefore, bracketed, word_of}
use Rattle.kernel_expressions.proofs.Join.{behind, as_well, nothing}
use Rattle.kernel_expressions.proofs.ListSteps.{lone, words}

pub exact : (all : List Lexical) (a b : ℕ) (P : List Lexical → Type 0) → (h : Reads all a b P) → Reads all a b (Is h.text)
exact all a b P h = record { text = h.text; ahead = h.ahead; on = h.on; within = h.within; is = refl }

pub token : (all : List Lexical) (a b : ℕ) (x : Lexical) → b ≡ a + 1 → Next all a x → Reads all a b (Is (x ∷ []))
token all a b x e n = lone all a b x (Is (x ∷ [])) e n refl

pub joins : (all : List Lexical) (a b c : ℕ) (u v : List Lexical) → Reads all a b (Is u) → Reads all b c (Is v) → Reads all a c (Is (u ++ v))
joins all a b c u v h k = behind all a b c (Is u) (Is v) (Is (u ++ v)) h k (λ s t p q. ap (λ xs. xs ++ t) p ∙ ap (λ xs. u ++ xs) q)

pub as_item : (S : Type 0) {X T : Type 0} (spell : X → List Lexical) (mean : X → T) (v : T) (all : List Lexical) (a b : ℕ) (u : List Lexical) → Reads all a b (Is u) → IsItem S spell mean v u → Reads all a b (IsItem S spell mean v)
as_item S spell mean v all a b u h i = as_well all a b (Is u) (IsItem S spell mean v) h (λ t e. subst (IsItem S spell mean v) (sym e) i)

-- a word and the sign behind it
head : (all : List Lexical) (at a : ℕ) (x y : Lexical) → Next all at x → a ≡ (at + 1) + 1 → Next all (at + 1) y → Reads all at a (Is (x ∷ y ∷ []))
head all at a x y n e p = joins all at (at + 1) a (x ∷ []) (y ∷ []) (token all at (at + 1) x refl n) (token all (at + 1) a y e p)

pub id_read : (S : Type 0) (w : List ℕ) (all : List Lexical) (at a b : ℕ) → Next all at (key "id") → a ≡ (at + 1) + 1 → Next all (at + 1) (mark "=") → Reads all a b (IsItem S name_text word_of w) → Reads all at b (IsItem S option_text option_of (choice.Id w))
id_read S w all at a b n e p h = as_item S option_text option_of (choice.Id w) all at b (key "id" ∷ mark "=" ∷ h.text) (joins all at a b (key "id" ∷ mark "=" ∷ []) h.text (head all at a (key "id") (mark "=") n e p) (exact all a b (IsItem S name_text word_of w) h))
    (record { tree = id h.is.tree; spelled = ap (λ xs. key "id" ∷ mark "=" ∷ xs) h.is.spelled; means = λ s. ap choice.Id (h.is.means s) })

pub inames_option : (S : Type 0) (ws : List (List ℕ)) (all : List Lexical) (at a b : ℕ) → Next all at (key "inames") → a ≡ (at + 1) + 1 → Next all (at + 1) (mark "=") → Reads all a b (IsList S name_text word_of (mark ":") ws) → Reads all at b (IsItem S option_text option_of (choice.Inames ws))
inames_option S ws all at a b n e p h = as_item S option_text option_of (choice.Inames ws) all at b (key "inames" ∷ mark "=" ∷ h.text) (joins all at a b (key "inames" ∷ mark "=" ∷ []) h.text (head all at a (key "inames") (mark "=") n e p) (exact all a b (IsList S name_text word_of (mark ":") ws) h))
    (record { tree = inames h.is.first h.is.more; spelled = ap (λ xs. key "inames" ∷ mark "=" ∷ xs) h.is.spelled; means = λ s. ap choice.Inames (sym (words (h.is.first ∷ h.is.more)) ∙ h.is.means s) })

pub condition_read : (S : Type 0) (test : List Step) (all : List Lexical) (at a b : ℕ) → Next all at (key "if") → a ≡ (at + 1) + 1 → Next all (at + 1) (mark "=") → Reads all a b (IsItem S or_text or_steps test) → Reads all at b (IsItem S option_text option_of (choice.If test))
condition_read S test all at a b n e p h = as_item S option_text option_of (choice.If test) all at b (key "if" ∷ mark "=" ∷ h.text) (joins all at a b (key "if" ∷ mark "=" ∷ []) h.text (head all at a (key "if") (mark "=") n e p) (exact all a b (IsItem S or_text or_steps test) h))
    (record { tree = condition h.is.tree; spelled = ap (λ xs. key "if" ∷ mark "=" ∷ xs) h.is.spelled; means = λ s. ap choice.If (h.is.means s) })

pub dep_plain : (S : Type 0) (ws : List (List ℕ)) (all : List Lexical) (at a b : ℕ) → Next all at (key "dep") → a ≡ (at + 1) + 1 → Next all (at + 1) (mark "=") → Reads all a b (IsItem S ids_text words_of ws) → Reads all at b (IsItem S option_text option_of (choice.Dep true ws))
dep_plain S ws all at a b n e p h = as_item S option_text option_of (choice.Dep true ws) all at b (key "dep" ∷ mark "=" ∷ h.text) (joins all at a b (key "dep" ∷ mark "=" ∷ []) h.text (head all at a (key "dep") (mark "=") n e p) (exact all a b (IsItem S ids_text words_of ws) h))
    (record { tree = dep false h.is.tree; spelled = ap (λ xs. key "dep" ∷ mark "=" ∷ xs) h.is.spelled; means = λ s. ap (choice.Dep true) (h.is.means s) })

pub dep_starred : (S : Type 0) (ws : List (List ℕ)) (all : List Lexical) (at a m b : ℕ) → Next all at (key "dep") → a ≡ (at + 1) + 1 → Next all (at + 1) (mark "=") → m ≡ a + 1 → Next all a (mark "*") → Reads all m b (IsItem S ids_text words_of ws) → Reads all at b (IsItem S option_text option_of (choice.Dep false ws))
dep_starred S ws all at a m b n e p f q h = as_item S option_text option_of (choice.Dep false ws) all at b (key "dep" ∷ mark "=" ∷ mark "*" ∷ h.text)
    (joins all at m b (key "dep" ∷ mark "=" ∷ mark "*" ∷ []) h.text (joins all at a m (key "dep" ∷ mark "=" ∷ []) (mark "*" ∷ []) (head all at a (key "dep") (mark "=") n e p) (token all a m (mark "*") f q)) (exact all m b (IsItem S ids_text words_of ws) h))
    (record { tree = dep true h.is.tree; spelled = ap (λ xs. key "dep" ∷ mark "=" ∷ mark "*" ∷ xs) h.is.spelled; means = λ s. ap (choice.Dep false) (h.is.means s) })

pub ids_none : (S : Type 0) (ws : List (List ℕ)) (all : List Lexical) (at : ℕ) → at ≤ length all → ws ≡ [] → Reads all at at (IsItem S ids_text words_of ws)
ids_none S ws all at within e = nothing all at (IsItem S ids_text words_of ws) within (record { tree = []; spelled = refl; means = λ s. sym e })

pub ids_some : (S : Type 0) (ws : List (List ℕ)) (all : List Lexical) (at next : ℕ) → Reads all at next (IsList S name_text word_of (mark ":") ws) → Reads all at next (IsItem S ids_text words_of ws)
ids_some S ws all at next h = as_well all at next (IsList S name_text word_of (mark ":") ws) (IsItem S ids_text words_of ws) h (λ t i. record { tree = i.first ∷ i.more; spelled = i.spelled; means = λ s. sym (words (i.first ∷ i.more)) ∙ i.means s })

-- options
pub options_none : (S : Type 0) (os : List chosen.InsnOption) (all : List Lexical) (at : ℕ) → at ≤ length all → os ≡ [] → Reads all at at (IsItem S options_text options_of os)
options_none S os all at within e = nothing all at (IsItem S options_text options_of os) within (record { tree = None; spelled = refl; means = λ s. sym e })

pub options_empty : (S : Type 0) (os : List chosen.InsnOption) (all : List Lexical) (at a b : ℕ) → os ≡ [] → a ≡ at + 1 → Next all at (mark "{") → b ≡ a + 1 → Next all a (mark "}") → Reads all at b (IsItem S options_text options_of os)
options_empty S os all at a b w e n f p = as_item S options_text options_of os all at b (mark "{" ∷ mark "}" ∷ []) (joins all at a b (mark "{" ∷ []) (mark "}" ∷ []) (token all at a (mark "{") e n) (token all a b (mark "}") f p))
    (record { tree = Some []; spelled = refl; means = λ s. sym w })

pub options_some : (S : Type 0) (os : List chosen.InsnOption) (all : List Lexical) (at a b c : ℕ) → a ≡ at + 1 → Next all at (mark "{") → Reads all a b (IsList S option_text option_of (mark ",") os) → c ≡ b + 1 → Next all b (mark "}") → Reads all at c (IsItem S options_text options_of os)
options_some S os all at a b c e n h f p = as_item S options_text options_of os all at c ((mark "{" ∷ h.text) ++ mark "}" ∷ [])
    (joins all at b c (mark "{" ∷ h.text) (mark "}" ∷ []) (joins all at a b (mark "{" ∷ []) h.text (token all at a (mark "{") e n) (exact all a b (IsList S option_text option_of (mark ",") os) h)) (token all b c (mark "}") f p))
    (record { tree = Some (h.is.first ∷ h.is.more); spelled = ap (λ xs. mark "{" ∷ xs ++ mark "}" ∷ []) h.is.spelled; means = h.is.means })

-- the place of an instruction
pub place_none : (S : Type 0) (ps : List (List Step)) (all : List Lexical) (at : ℕ) → at ≤ length all → ps ≡ [] → Reads all at at (IsItem S place_text place_of ps)
place_none S ps all at within e = nothing all at (IsItem S place_text place_of ps) within (record { tree = None; spelled = refl; means = λ s. sym e })

pub place_some : (S : Type 0) (ps : List (List Step)) (all : List Lexical) (at next : ℕ) → Reads all at next (IsItem S bracketed sums_steps ps) → Reads all at next (IsItem S place_text place_of ps)
place_some S ps all at next h = as_well all at next (IsItem S bracketed sums_steps ps) (IsItem S place_text place_of ps) h (λ t i. record { tree = Some i.tree; spelled = i.spelled; means = i.means })

-- an instruction
insn_tree : Declared → Name → Option Sums → Stored → Or → Option (List InsnOption) → Line
insn_tree d n p s v o = insn (record { declared = d; cell = n; place = p; stored = s; value = v; options = o })

six : (a b c d e f a1 b1 c1 d1 e1 f1 : List Lexical) → a ≡ a1 → b ≡ b1 → c ≡ c1 → d ≡ d1 → e ≡ e1 → f ≡ f1 → a ++ b ++ c ++ d ++ e ++ f ≡ a1 ++ b1 ++ c1 ++ d1 ++ e1 ++ f1
six a b c d e f a1 b1 c1 d1 e1 f1 h1 h2 h3 h4 h5 h6 = cc

pub insn_read : (S : Type 0) (d : Declared) (n : List ℕ) (p : List (List Step)) (st : Stored) (v : List Step) (o : List chosen.InsnOption) (all : List Lexical) (a b c e f g h : ℕ)
    → Reads all a b (Is (declared_text d)) → Reads all b c (IsItem S name_text word_of n) → Reads all c e (IsItem S place_text place_of p) → Reads all e f (Is (stored_text st)) → Reads all f g (IsItem S or_text or_steps v)
    → Reads all g h (IsItem S options_text options_of o) → Reads all a h (IsItem S line_text item_of (said.Insn d n p st v o))
unfolding insn_tree
insn_read S d n p st v o all a b c e f g h r1 r2 r3 r4 r5 r6 = as_item S line_text item_of (said.Insn d n p st v o) all a h (declared_text d ++ r2.text ++ r3.text ++ stored_text st ++ r5.text ++ r6.text)
    (joins all a g h _ r6.text (joins all a f g _ r5.text (joins all a e f _ (stored_text st) (joins all a c e _ r3.text (joins all a b c (declared_text d) r2.text r1 (exact all b c (IsItem S name_text word_of n) r2)) (exact all c e (IsItem S place_text place_of p) r3)) r4) (exact all f g (IsItem S or_text or_steps v) r5)) (exact all g h (IsItem S options_text options_of o) r6))
    (record {
      tree = insn_tree d r2.is.tree r3.is.tree st r5.is.tree r6.is.tree;
      spelled = six _ _ _ _ _ _ _ _ _ _ _ _ refl r2.is.spelled r3.is.spelled refl r5.is.spelled r6.is.spelled;
      means = λ s. ap (λ (x : List ℕ). said.Insn d x (place_of r3.is.tree) st (or_steps r5.is.tree) (options_of r6.is.tree)) (r2.is.means s) ∙ ap (λ (x : List (List Step)). said.Insn d n x st (or_steps r5.is.tree) (options_of r6.is.tree)) (r3.is.means s)
          ∙ ap (λ (x : List Step). said.Insn d n p st x (options_of r6.is.tree)) (r5.is.means s) ∙ ap (said.Insn d n p st v) (r6.is.means s);
    })

pub ids_if : (S : Type 0) (all : List Lexical) (at : ℕ) (r : Result (List (List ℕ) × ℕ) Stop) → IfOk r (λ read. Reads all at read.1 (IsList S name_text word_of (mark ":") read.0)) → IfOk r (λ read. Reads all at read.1 (IsItem S ids_text words_of read.0))
ids_if S all at (Ok read) h = ids_some S read.0 all at read.1 h
ids_if S all at (Err e) h = tt

pub place_if : (S : Type 0) (all : List Lexical) (at : ℕ) (r : Result (List (List Step) × ℕ) Stop) → IfOk r (λ read. Reads all at read.1 (IsItem S bracketed sums_steps read.0)) → IfOk r (λ read. Reads all at read.1 (IsItem S place_text place_of read.0))
place_if S all at (Ok read) h = place_some S read.0 all at read.1 h
place_if S all at (Err e) h = tt

pub ruled_none : (S : Type 0) (cs : List chained.Chain) (all : List Lexical) (at : ℕ) → at ≤ length all → cs ≡ [] → Reads all at at (IsItem S ruled_text (map chain_of) cs)
ruled_none S cs all at within e = nothing all at (IsItem S ruled_text (map chain_of) cs) within (record { tree = []; spelled = refl; means = λ s. sym e })

ruled_some : (S : Type 0) (cs : List chained.Chain) (all : List Lexical) (at a b : ℕ) → a ≡ at + 1 → Next all at (mark ":") → Reads all a b (IsList S chain_text chain_of (key "and") cs) → Reads all at b (IsItem S ruled_text (map chain_of) cs)
ruled_some S cs all at a b e n h = as_item S ruled_text (map chain_of) cs all at b (mark ":" ∷ h.text) (joins all at a b (mark ":" ∷ []) h.text (token all at a (mark ":") e n) (exact all a b (IsList S chain_text chain_of (key "and") cs) h))
    (record { tree = h.is.first ∷ h.is.more; spelled = ap (λ xs. mark ":" ∷ xs) h.is.spelled; means = h.is.means })

pub ruled_if : (S : Type 0) (all : List Lexical) (at a : ℕ) (r : Result (List chained.Chain × ℕ) Stop) → a ≡ at + 1 → Next all at (mark ":") → IfOk r (λ read. Reads all a read.1 (IsList S chain_text chain_of (key "and") read.0)) → IfOk r (λ read. Reads all at read.1 (IsItem S ruled_text (map chain_of) read.0))
ruled_if S all at a (Ok read) e n h = ruled_some S read.0 all at a read.1 e n h
ruled_if S all at a (Err x) e n h = tt

-- an assumption
pub assume_read : (S : Type 0) (cs : List chained.Chain) (all : List Lexical) (at b : ℕ) → Next all at (key "assume") → Reads all (at + 1) b (IsList S chain_text chain_of (key "and") cs) → Reads all at b (IsItem S line_text item_of (said.Assume cs))
assume_read S cs all at b n h = as_item S line_text item_of (said.Assume cs) all at b (key "assume" ∷ h.text) (joins all at (at + 1) b (key "assume" ∷ []) h.text (token all at (at + 1) (key "assume") refl n) (exact all (at + 1) b (IsList S chain_text chain_of (key "and") cs) h))
    (record { tree = assume h.is.first h.is.more; spelled = ap (λ xs. key "assume" ∷ xs) h.is.spelled; means = λ s. ap said.Assume (h.is.means s) })

-- a name with its kind
pub typed_read : (S : Type 0) (w : List ℕ) (kind : Kind) (all : List Lexical) (at a b c : ℕ) → Reads all at a (IsItem S name_text word_of w) → b ≡ a + 1 → Next all a (mark ":") → c ≡ b + 1 → Next all b (word (kind_word kind)) → Reads all at c (IsItem S (λ (name : Name). typed_text name kind) word_of w)
typed_read S w kind all at a b c h e n f p = as_item S (λ (name : Name). typed_text name kind) word_of w all at c (h.text ++ mark ":" ∷ word (kind_word kind) ∷ [])
    (joins all at a c h.text (mark ":" ∷ word (kind_word kind) ∷ []) (exact all at a (IsItem S name_text word_of w) h) (joins all a b c (mark ":" ∷ []) (word (kind_word kind) ∷ []) (token all a b (mark ":") e n) (token all b c (word (kind_word kind)) f p)))
    (record { tree = h.is.tree; spelled = ap (λ xs. xs ++ mark ":" ∷ word (kind_word kind) ∷ []) h.is.spelled; means = h.is.means })

-- a temporary
pub temp_read : (S : Type 0) (w : List ℕ) (kind : Kind) (ns : List (Option ℕ)) (all : List Lexical) (at a b : ℕ) → Next all at (key "temp") → Reads all (at + 1) a (IsItem S (λ (name : Name). typed_text name kind) word_of w) → Reads all a b (IsItem S numbers_text (map number_in) ns)
    → Reads all at b (IsItem S line_text item_of (said.Temp w kind ns))
temp_read S w kind ns all at a b n h k = as_item S line_text item_of (said.Temp w kind ns) all at b (key "temp" ∷ h.text ++ k.text)
    (joins all at a b (key "temp" ∷ h.text) k.text (joins all at (at + 1) a (key "temp" ∷ []) h.text (token all at (at + 1) (key "temp") refl n) (exact all (at + 1) a (IsItem S (λ (name : Name). typed_text name kind) word_of w) h)) (exact all a b (IsItem S numbers_text (map number_in) ns) k))
    (record {
      tree = temp h.is.tree kind k.is.tree;
      spelled = ap (λ xs. key "temp" ∷ xs ++ numbers_text k.is.tree) h.is.spelled ∙ ap (λ xs. key "temp" ∷ h.text ++ xs) k.is.spelled;
      means = λ s. ap (λ (x : List ℕ). said.Temp x kind (map number_in k.is.tree)) (h.is.means s) ∙ ap (said.Temp w kind) (k.is.means s);
    })

-- an array
array_line : Bool → Name → Kind → Sums → Line
array_line true name kind shape = output name kind shape
array_line false name kind shape = input name kind shape

array_spelled : (stored : Bool) (name : Name) (kind : Kind) (shape : Sums) → line_text (array_line stored name kind shape) ≡ array_word stored ∷ typed_text name kind ++ bracketed shape
unfolding array_line
array_spelled true name kind shape = refl
array_spelled false name kind shape = refl

array_means : (stored : Bool) (name : Name) (kind : Kind) (shape : Sums) → item_of (array_line stored name kind shape) ≡ said.Array name.word kind (sums_steps shape) stored
unfolding array_line
array_means true name kind shape = refl
array_means false name kind shape = refl

pub array_read : (S : Type 0) (stored : Bool) (w : List ℕ) (kind : Kind) (ps : List (List Step)) (all : List Lexical) (at a b : ℕ) → Next all at (array_word stored) → Reads all (at + 1) a (IsItem S (λ (name : Name). typed_text name kind) word_of w) → Reads all a b (IsItem S bracketed sums_steps ps)
    → Reads all at b (IsItem S line_text item_of (said.Array w kind ps stored))
array_read S stored w kind ps all at a b n h k = as_item S line_text item_of (said.Array w kind ps stored) all at b (array_word stored ∷ h.text ++ k.text)
    (joins all at a b (array_word stored ∷ h.text) k.text (joins all at (at + 1) a (array_word stored ∷ []) h.text (token all at (at + 1) (array_word stored) refl n) (exact all (at + 1) a (IsItem S (λ (name : Name). typed_text name kind) word_of w) h)) (exact all a b (IsItem S bracketed sums_steps ps) k))
    (record {
      tree = array_line stored h.is.tree kind k.is.tree;
      spelled = array_spelled stored h.is.tree kind k.is.tree ∙ ap (λ xs. array_word stored ∷ xs ++ bracketed k.is.tree) h.is.spelled ∙ ap (λ xs. array_word stored ∷ h.text ++ xs) k.is.spelled;
      means = λ s. array_means stored h.is.tree kind k.is.tree ∙ ap (λ (x : List ℕ). said.Array x kind (sums_steps k.is.tree) stored) (h.is.means s) ∙ ap (λ (x : List (List Step)). said.Array w kind x stored) (k.is.means s);
    })

-- a rule
pub rule_read : (S : Type 0) (w : List ℕ) (ps : List (List ℕ)) (body : List Step) (all : List Lexical) (at a b c d e : ℕ) → Reads all at a (IsItem S name_text word_of w) → b ≡ a + 1 → Next all a (mark "(") → Reads all b c (IsNamesBefore S (mark ")") ps)
    → d ≡ c + 1 → Next all c (mark ":=") → Reads all d e (IsItem S or_text or_steps body) → Reads all at e (IsItem S line_text item_of (said.Rule w ps body))
rule_read S w ps body all at a b c d e h f n k g p l = as_item S line_text item_of (said.Rule w ps body) all at e ((((h.text ++ mark "(" ∷ []) ++ k.text) ++ mark ":=" ∷ []) ++ l.text)
    (joins all at d e _ l.text (joins all at c d _ (mark ":=" ∷ []) (joins all at b c _ k.text (joins all at a b h.text (mark "(" ∷ []) (exact all at a (IsItem S name_text word_of w) h) (token all a b (mark "(") f n)) (exact all b c (IsNamesBefore S (mark ")") ps) k)) (token all c d (mark ":=") g p)) (exact all d e (IsItem S or_text or_steps body) l))
    (record {
      tree = rule h.is.tree k.is.tree l.is.tree;
      spelled = sym (append_assoc (word h.is.tree.word ∷ mark "(" ∷ (names_text k.is.tree ++ mark ")" ∷ [])) (mark ":=" ∷ []) (or_text l.is.tree))
          ∙ ap (λ xs. ((xs ++ mark "(" ∷ []) ++ (names_text k.is.tree ++ mark ")" ∷ []) ++ mark ":=" ∷ []) ++ or_text l.is.tree) h.is.spelled
          ∙ ap (λ xs. (((h.text ++ mark "(" ∷ []) ++ xs) ++ mark ":=" ∷ []) ++ or_text l.is.tree) k.is.spelled ∙ ap (λ xs. (((h.text ++ mark "(" ∷ []) ++ k.text) ++ mark ":=" ∷ []) ++ xs) l.is.spelled;
      means = λ s. ap (λ (x : List ℕ). said.Rule x (words_of k.is.tree) (or_steps l.is.tree)) (h.is.means s) ∙ ap (λ (x : List (List ℕ)). said.Rule w x (or_steps l.is.tree)) (k.is.means s) ∙ ap (said.Rule w ps) (l.is.means s);
    })

domain_text : (k m r : List Lexical) → key "domain" ∷ (mark "[" ∷ k ++ mark "]" ∷ []) ++ mark "->" ∷ mark "{" ∷ (mark "[" ∷ m ++ mark "]" ∷ []) ++ r ++ mark "}" ∷ []
    ≡ (((key "domain" ∷ mark "[" ∷ (k ++ mark "]" ∷ [])) ++ mark "->" ∷ mark "{" ∷ mark "[" ∷ (m ++ mark "]" ∷ [])) ++ r) ++ mark "}" ∷ []
domain_text k m r = refl

-- a domain
pub domain_read : (S : Type 0) (ks ms : List (List ℕ)) (cs : List chained.Chain) (all : List Lexical) (at a b c d e f g h : ℕ) → Next all at (key "domain") → a ≡ (at + 1) + 1 → Next all (at + 1) (mark "[") → Reads all a b (IsNamesBefore S (mark "]") ks)
    → c ≡ b + 1 → Next all b (mark "->") → d ≡ c + 1 → Next all c (mark "{") → e ≡ d + 1 → Next all d (mark "[") → Reads all e f (IsNamesBefore S (mark "]") ms) → Reads all f g (IsItem S ruled_text (map chain_of) cs) → h ≡ g + 1 → Next all g (mark "}")
    → Reads all at h (IsItem S line_text item_of (said.Domain ks ms cs))
domain_read S ks ms cs all at a b c d e f g h n1 e1 n2 r1 e2 n3 e3 n4 e4 n5 r2 r3 e5 n6 = as_item S line_text item_of (said.Domain ks ms cs) all at h
    ((((key "domain" ∷ mark "[" ∷ r1.text) ++ mark "->" ∷ mark "{" ∷ mark "[" ∷ r2.text) ++ r3.text) ++ mark "}" ∷ [])
    (joins all at g h _ (mark "}" ∷ []) (joins all at f g _ r3.text (joins all at b f _ (mark "->" ∷ mark "{" ∷ mark "[" ∷ r2.text) (joins all at a b (key "domain" ∷ mark "[" ∷ []) r1.text (head all at a (key "domain") (mark "[") n1 e1 n2) (exact all a b (IsNamesBefore S (mark "]") ks) r1))
    (joins all b c f (mark "->" ∷ []) (mark "{" ∷ mark "[" ∷ r2.text) (token all b c (mark "->") e2 n3) (joins all c d f (mark "{" ∷ []) (mark "[" ∷ r2.text) (token all c d (mark "{") e3 n4) (joins all d e f (mark "[" ∷ []) r2.text (token all d e (mark "[") e4 n5) (exact all e f (IsNamesBefore S (mark "]") ms) r2)))))
    (exact all f g (IsItem S ruled_text (map chain_of) cs) r3)) (token all g h (mark "}") e5 n6))
    (record {
      tree = domain r1.is.tree r2.is.tree r3.is.tree;
      spelled = domain_text (names_text r1.is.tree) (names_text r2.is.tree) (ruled_text r3.is.tree)
          ∙ ap (λ xs. (((key "domain" ∷ mark "[" ∷ xs) ++ mark "->" ∷ mark "{" ∷ mark "[" ∷ (names_text r2.is.tree ++ mark "]" ∷ [])) ++ ruled_text r3.is.tree) ++ mark "}" ∷ []) r1.is.spelled
          ∙ ap (λ xs. (((key "domain" ∷ mark "[" ∷ r1.text) ++ mark "->" ∷ mark "{" ∷ mark "[" ∷ xs) ++ ruled_text r3.is.tree) ++ mark "}" ∷ []) r2.is.spelled
          ∙ ap (λ xs. (((key "domain" ∷ mark "[" ∷ r1.text) ++ mark "->" ∷ mark "{" ∷ mark "[" ∷ r2.text) ++ xs) ++ mark "}" ∷ []) r3.is.spelled;
      means = λ s. ap (λ (x : List (List ℕ)). said.Domain x (words_of r2.is.tree) (map chain_of r3.is.tree)) (r1.is.means s) ∙ ap (λ (x : List (List ℕ)). said.Domain ks x (map chain_of r3.is.tree)) (r2.is.means s) ∙ ap (said.Domain ks ms) (r3.is.means s);
    })
