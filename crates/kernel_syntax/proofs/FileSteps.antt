-- Files that are read line by line.
use Rattle.std.proofs.Common.{◌≡◌, ◌<◌, ◌≤◌, ◌+◌, ◌-◌, ◌^◌, ℕ, zero, suc, List, [], ◌∷◌, ◌++◌, length, min, drop, ap, sym, refl, ◌∙◌, subst, append_assoc, arith, length-append, Option, Some, None}
use Rattle.std.specs.List.{repeat}
use Rattle.std.specs.Option.{option_map}
use Rattle.std.proofs.lemmas.List.{append-nil, drop_all}
use Rattle.kernel_grammar.specs.declared.item.Item.{Item}
use Rattle.kernel_grammar.specs.declared.file.Entry.{Entry}
use Rattle.kernel_grammar.specs.declared.file.KernelFile.{KernelFile}
use Rattle.kernel_grammar.specs.Lexicals.{Lexical, line_end}
use Rattle.kernel_grammar.specs.Lines.{Line, line_text}
use Rattle.kernel_grammar.specs.Syntax.{item_of}
use Rattle.kernel_grammar.specs.Files.{lines_text, file_text, entries_from, file_of}
use Rattle.kernel_expressions.specs.Texts.{IsFit}
use Rattle.kernel_expressions.specs.Reads.{Next, Reads, IsItem}
use Rattle.kernel_expressions.proofs.Join.{behind, as_well, nothing}
use Rattle.kernel_syntax.specs.Parts.{Is}
use Rattle.kernel_syntax.specs.FileParts.{head_text, ended_text, IsEnded, AreLines}
use Rattle.kernel_syntax.proofs.LineSteps.{exact, token, joins, as_item}

lines-append : (lines more : List (Option Line)) → lines_text (lines ++ more) ≡ lines_text lines ++ lines_text more
lines-append [] more = refl
lines-append (None ∷ lines) more = ap (λ xs. line_end ∷ xs) (lines-append lines more)
lines-append (Some line ∷ lines) more = ap (λ xs. line_text line ++ line_end ∷ xs) (lines-append lines more) ∙ sym (append_assoc (line_text line) (line_end ∷ lines_text lines) (lines_text more))

entries-append : (n : ℕ) (lines : List (Option Line)) (line : Option Line) → entries_from n (lines ++ line ∷ []) ≡ entries_from n lines ++ entries_from (n + length lines) (line ∷ [])
entries-append n [] line = ap (λ (m : ℕ). entries_from m (line ∷ [])) (let e : n ≡ n + 0 = omega arith in e)
entries-append n (None ∷ lines) line = entries-append (n + 1) lines line ∙ ap (λ (m : ℕ). entries_from (n + 1) lines ++ entries_from m (line ∷ [])) (let e : (n + 1) + length lines ≡ n + suc (length lines) = omega arith in e)
entries-append n (Some other ∷ lines) line = ap (λ (es : List Entry). record { line = n; item = item_of other } ∷ es) (entries-append (n + 1) lines line
    ∙ ap (λ (m : ℕ). entries_from (n + 1) lines ++ entries_from m (line ∷ [])) (let e : (n + 1) + length lines ≡ n + suc (length lines) = omega arith in e))

-- what a line says, with its number
abbrev pub said : ℕ → Option Item → List Entry
said n None = []
said n (Some item) = record { line = n; item = item } ∷ []

one_entry : (n : ℕ) (line : Option Line) (item : Option Item) → option_map item_of line ≡ item → entries_from n (line ∷ []) ≡ said n item
one_entry n None item e = ap (said n) e
one_entry n (Some line) item e = ap (said n) e

-- lines that are read, with the number of the last
pub record LinesTo (S : Type 0) (before number : ℕ) (entries : List Entry) (text : List Lexical) : Type 0 where
  pub so_far : AreLines S before entries text
  pub counted : number ≡ min (before + length so_far.lines) (2 ^ 32 - 1)

pub lines_none : (S : Type 0) (before : ℕ) (entries : List Entry) (all : List Lexical) (at : ℕ) → at ≤ length all → before < 2 ^ 32 → entries ≡ [] → Reads all at at (LinesTo S before before entries)
lines_none S before entries all at within range e = nothing all at (LinesTo S before before entries) within
    (record { so_far = record { lines = []; spelled = refl; means = λ s short. sym e }; counted = omega (arith, range) })

line_push : (S : Type 0) (before number next : ℕ) (entries new : List Entry) (item : Option Item) (t u : List Lexical) → next ≡ min (number + 1) (2 ^ 32 - 1) → new ≡ entries ++ said next item
    → LinesTo S before number entries t → IsEnded S item u → LinesTo S before next new (t ++ u)
line_push S before number next entries new item t u e made h k =
    let lines = h.so_far.lines in
    record {
      so_far = record {
        lines = lines ++ k.tree ∷ [];
        spelled = lines-append lines (k.tree ∷ []) ∙ ap (λ xs. xs ++ ended_text k.tree) h.so_far.spelled ∙ ap (λ xs. t ++ xs) k.spelled;
        means = λ s short. let longer = length-append lines (k.tree ∷ []) in
            let here : (before + 1) + length lines ≡ next = omega (arith, e, h.counted, short, longer) in
            let less : before + length lines < 2 ^ 32 = omega (arith, short, longer) in
            entries-append (before + 1) lines k.tree ∙ ap (λ (es : List Entry). es ++ entries_from ((before + 1) + length lines) (k.tree ∷ [])) (h.so_far.means s less)
            ∙ ap (λ (m : ℕ). entries ++ entries_from m (k.tree ∷ [])) here ∙ ap (λ (es : List Entry). entries ++ es) (one_entry next k.tree item (k.means s)) ∙ sym made;
      };
      counted = omega (arith, e, h.counted, length-append lines (k.tree ∷ []));
    }

pub lines_on : (S : Type 0) (before number next : ℕ) (entries new : List Entry) (item : Option Item) (all : List Lexical) (at b c : ℕ) → next ≡ min (number + 1) (2 ^ 32 - 1) → new ≡ entries ++ said next item
    → Reads all at b (LinesTo S before number entries) → Reads all b c (IsEnded S item) → Reads all at c (LinesTo S before next new)
lines_on S before number next entries new item all at b c e made h k = behind all at b c (LinesTo S before number entries) (IsEnded S item) (LinesTo S before next new) h k (λ t u p q. line_push S before number next entries new item t u e made p q)

pub lines_said : (S : Type 0) (before number next : ℕ) (entries new : List Entry) (line : Option Item) (item : Item) (all : List Lexical) (at b c : ℕ) → next ≡ min (number + 1) (2 ^ 32 - 1) → line ≡ Some item → new ≡ entries ++ record { line = next; item = item } ∷ []
    → Reads all at b (LinesTo S before number entries) → Reads all b c (IsEnded S line) → Reads all at c (LinesTo S before next new)
lines_said S before number next entries new line item all at b c e is made h k = lines_on S before number next entries new line all at b c e (made ∙ ap (λ (o : Option Item). entries ++ said next o) (sym is)) h k

said_nothing : (n : ℕ) (line : Option Item) → ((item : Item) → line ≡ Some item → ⊥) → said n line ≡ []
said_nothing n None none = refl
said_nothing n (Some item) none = absurd (none item refl)

pub lines_silent : (S : Type 0) (before number next : ℕ) (entries : List Entry) (line : Option Item) (all : List Lexical) (at b c : ℕ) → next ≡ min (number + 1) (2 ^ 32 - 1) → ((item : Item) → line ≡ Some item → ⊥)
    → Reads all at b (LinesTo S before number entries) → Reads all b c (IsEnded S line) → Reads all at c (LinesTo S before next entries)
lines_silent S before number next entries line all at b c e none h k = lines_on S before number next entries entries line all at b c e (sym (ap (λ (es : List Entry). entries ++ es) (said_nothing next line none) ∙ append-nil entries)) h k

pub lines_whole : (S : Type 0) (before number : ℕ) (entries : List Entry) (all : List Lexical) (at b : ℕ) → Reads all at b (LinesTo S before number entries) → length all ≤ b → Reads all at (length all) (AreLines S before entries)
lines_whole S before number entries all at b h past = let e : b ≡ length all = omega (arith, h.within) in
    subst (λ (m : ℕ). Reads all at m (AreLines S before entries)) e (as_well all at b (LinesTo S before number entries) (AreLines S before entries) h (λ t i. i.so_far))

-- a line
pub ended_none : (S : Type 0) (all : List Lexical) (at next : ℕ) → next ≡ at + 1 → Next all at line_end → Reads all at next (IsEnded S None)
ended_none S all at next e n = as_item S ended_text (option_map item_of) None all at next (line_end ∷ []) (token all at next line_end e n) (record { tree = None; spelled = refl; means = λ s. refl })

pub ended_some : (S : Type 0) (item : Item) (all : List Lexical) (at a next : ℕ) → Reads all at a (IsItem S line_text item_of item) → next ≡ a + 1 → Next all a line_end → Reads all at next (IsEnded S (Some item))
ended_some S item all at a next h e n = as_item S ended_text (option_map item_of) (Some item) all at next (h.text ++ line_end ∷ []) (joins all at a next h.text (line_end ∷ []) (exact all at a (IsItem S line_text item_of item) h) (token all a next line_end e n))
    (record { tree = Some h.is.tree; spelled = ap (λ xs. xs ++ line_end ∷ []) h.is.spelled; means = λ s. ap Some (h.is.means s) })

-- the lines before the first that says something
abbrev pub ends : ℕ → List Lexical
ends count = repeat count (line_end ∷ [])

ends-push : (count : ℕ) → ends count ++ line_end ∷ [] ≡ ends (suc count)
ends-push zero = refl
ends-push (suc count) = ap (λ xs. line_end ∷ xs) (ends-push count)

ends-length : (count : ℕ) → length (ends count) ≡ count
ends-length zero = refl
ends-length (suc count) = ap suc (ends-length count)

pub record Skips (all : List Lexical) (before at : ℕ) : Type 0 where
  pub count : ℕ
  pub read : Reads all 0 at (Is (ends count))
  pub counted : before ≡ min (count + 1) (2 ^ 32 - 1)

pub skips_none : (all : List Lexical) → Skips all 1 0
skips_none all = record { count = 0; read = nothing all 0 (Is []) (omega arith) refl; counted = omega arith }

pub skips_on : (all : List Lexical) (before new at next : ℕ) → Skips all before at → new ≡ min (before + 1) (2 ^ 32 - 1) → next ≡ at + 1 → Next all at line_end → Skips all new next
skips_on all before new at next h e f n = record {
  count = suc h.count;
  read = subst (λ (xs : List Lexical). Reads all 0 next (Is xs)) (ends-push h.count) (joins all 0 at next (ends h.count) (line_end ∷ []) h.read (token all at next line_end f n));
  counted = omega (arith, e, h.counted);
}

-- a file
lines_few : (lines : List (Option Line)) → length lines ≤ length (lines_text lines)
lines_few [] = omega arith
lines_few (None ∷ lines) = omega (arith, lines_few lines)
lines_few (Some line ∷ lines) = omega (arith, lines_few lines, length-append (line_text line) (line_end ∷ lines_text lines))

kernel_file : List Entry → KernelFile
kernel_file entries = record { entries = entries }

file_read : (S : Type 0) (all text : List Lexical) (count before : ℕ) (entries : List Entry) → (S → length all < 2 ^ 32) → before ≡ min (count + 1) (2 ^ 32 - 1) → all ≡ (ends count ++ head_text) ++ text → AreLines S before entries text
    → IsItem S file_text file_of (kernel_file entries) all
unfolding kernel_file
file_read S all text count before entries short e whole h = record {
  tree = record { before = count; lines = h.lines };
  spelled = sym (append_assoc (ends count) head_text (lines_text h.lines)) ∙ ap (λ xs. (ends count ++ head_text) ++ xs) h.spelled ∙ sym whole;
  means = λ s.
      let long : length all ≡ length ((ends count ++ head_text) ++ text) = ap length whole in
      let few : length h.lines ≤ length text = subst (λ (xs : List Lexical). length h.lines ≤ length xs) h.spelled (lines_few h.lines) in
      let fits : (count + 3) + length text < 2 ^ 32 = omega (arith, short s, long, length-append (ends count ++ head_text) text, length-append (ends count) head_text, ends-length count) in
      let same : before ≡ count + 1 = omega (arith, e, fits) in
      ap (λ (m : ℕ). kernel_file (entries_from m h.lines)) (let q : count + 2 ≡ before + 1 = omega (arith, same) in q) ∙ ap kernel_file (h.means s (omega (arith, same, few, fits)));
}

pub file_whole : (all : List Lexical) (before a b : ℕ) (entries : List Entry) → Skips all before a → Reads all a b (Is head_text) → Reads all b (length all) (AreLines (IsFit all) before entries) → IsItem (IsFit all) file_text file_of (record { entries = entries }) all
unfolding kernel_file
file_whole all before a b entries h k l =
    let whole = joins all 0 b (length all) (ends h.count ++ head_text) l.text (joins all 0 a b (ends h.count) head_text h.read k) (exact all b (length all) (AreLines (IsFit all) before entries) l) in
    let none : drop (length all) all ≡ [] = drop_all (length all) all (omega arith) in
    file_read (IsFit all) all l.text h.count before entries (λ s. s.short) h.counted
    (whole.ahead ∙ ap (λ xs. whole.text ++ xs) none ∙ append-nil whole.text ∙ whole.is) l.is
