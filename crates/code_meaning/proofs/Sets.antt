-- One assignment to an array by the only item.
use Rattle.std.proofs.Common.{◌≡◌, ℕ, ℤ, Bool, true, false, if◌then◌else◌, List, [], ◌∷◌, ◌++◌, map, filter, find, Option, Some, None, option_map, refl, ◌∙◌, ap}
use Rattle.std.specs.Option.{option_or}
use Rattle.wrap_words.specs.declared.kind.Word.{Word}
use Rattle.affine_rows.specs.Rows.{Env}
use Rattle.expr_tree.specs.declared.tree.Cell.TheVariants.{Array}
use Rattle.code_tree.specs.declared.code.Code.{Code}
use Rattle.code_meaning.specs.Plan.{set}
use Rattle.code_meaning.specs.Seen.{Words, Touch, Seen}
use Rattle.code_meaning.specs.States.{Task, begin, Access, put}
use Rattle.code_meaning.specs.Launch.{group_size}
use Rattle.code_meaning.specs.Moves.{Move, sets}
use Rattle.code_meaning.specs.Clashes.{clash, first_clash, is_common, access_of, accesses_of}
use Rattle.code_meaning.specs.Steps.{Outcome, misses, overflow, outside, unset, unless_missing, unless_race, settled, is_outside, is_unset}
use Rattle.code_meaning.specs.Alone.{only, Memory, item_at, group_at, stands, env_at, words_at, NoWait}
use Rattle.code_meaning.specs.Runs.{state_after, one_step}
use Rattle.code_meaning.proofs.Alone.{one_step_only, moved_only, settles}

-- all accesses so far are the only item's
abbrev pub IsOwn : List Access → Type 0
IsOwn [] = Unit {0}
IsOwn (a ∷ more) = (a.item ≡ 0) × IsOwn more

apart : (b a : Access) → b.item ≡ 0 → a.item ≡ 0 → clash b a ≡ false
apart b a e f = rw (e, f) refl

own_no_clash : (history : List Access) (a : Access) → IsOwn history → a.item ≡ 0 → find (λ h. clash h a) history ≡ None
own_no_clash [] a h e = refl
own_no_clash (b ∷ history) a h e =
    ap (λ (k : Bool). if k then Some b else find (λ h. clash h a) history) (apart b a h.0 e) ∙ own_no_clash history a h.1 e

-- no access of the only item clashes with one of its own
pub own_first_clash : (history accesses : List Access) → IsOwn history → IsOwn accesses → first_clash history accesses ≡ None
own_first_clash history [] h k = refl
own_first_clash history (a ∷ more) h k =
    ap (λ (o : Option Access). option_or (option_map (λ h. (h, a)) o) (first_clash history more)) (own_no_clash history a h k.0) ∙ own_first_clash history more h k.1

own_reads : (mem : Memory) (write : Bool) (reads : List Touch) → IsOwn (map (access_of only 0 mem.passed write) reads)
own_reads mem write [] = tt
own_reads mem write (t ∷ reads) = (refl, own_reads mem write reads)

own_append : (xs ys : List Access) → IsOwn xs → IsOwn ys → IsOwn (xs ++ ys)
own_append [] ys h k = k
own_append (x ∷ xs) ys h k = (h.0, own_append xs ys h.1 k)

own_kept : (b : Bool) (x : Access) (xs : List Access) → x.item ≡ 0 → IsOwn xs → IsOwn (if b then x ∷ xs else xs)
own_kept true x xs e h = (e, h)
own_kept false x xs e h = h

own_common : (code : Code) (xs : List Access) → IsOwn xs → IsOwn (filter (λ a. is_common code a.touch.cell) xs)
own_common code [] h = tt
own_common code (x ∷ xs) h = own_kept (is_common code x.touch.cell) x (filter (λ a. is_common code a.touch.cell) xs) h.0 (own_common code xs h.1)

-- the outcome of a move that meets no fault
clean : (o : Bool) (a b : Option Touch) (c : Option (Access × Access)) (out : Outcome) → o ≡ false → a ≡ None → b ≡ None → c ≡ None
    → (if o then misses None overflow else unless_missing outside a (unless_missing unset b (unless_race c out))) ≡ out
clean o a b c out e f g h = rw (e, f, g, h) refl

-- an assignment of the word w to place i of array k, with these reads
abbrev pub assigning : Memory → List Task → List (ℕ × ℤ) → ℕ → ℤ → List Touch → Word → Move
assigning mem tasks loops k i reads w = record {
  overflow = false;
  reads = reads;
  target = Some (record { cell = Array k; index = i });
  word = Some w;
  after = item_at mem tasks loops;
}

abbrev pub assigned : Code → Memory → ℕ → ℤ → List Touch → Word → Memory
assigned code mem k i reads w = record mem { arrays = put mem.arrays k i w; history = mem.history ++ accesses_of code only 0 mem.passed (assigning mem [] [] k i reads w) }

own_accesses : (code : Code) (mem : Memory) (k : ℕ) (i : ℤ) (reads : List Touch) (w : Word) → IsOwn (accesses_of code only 0 mem.passed (assigning mem [] [] k i reads w))
own_accesses code mem k i reads w = own_common code _ (own_append (map (access_of only 0 mem.passed false) reads) _ (own_reads mem false reads) (own_reads mem true (record { cell = Array k; index = i } ∷ [])))

pub own_assigned : (code : Code) (mem : Memory) (k : ℕ) (i : ℤ) (reads : List Touch) (w : Word) → IsOwn mem.history → IsOwn (assigned code mem k i reads w).history
own_assigned code mem k i reads w h = own_append mem.history _ h (own_accesses code mem k i reads w)

-- What an assignment by the only item needs.
pub record Assigns (code : Code) (params : List ℤ) (mem : Memory) (loops : List (ℕ × ℤ)) (k : ℕ) (index : Env → Option ℤ) (value : Env → Words → Seen Word) (i : ℤ) (reads : List Touch) (w : Word) : Type 0 where
  pub index_is : index (env_at code params loops) ≡ Some i
  pub value_is : value (env_at code params loops) (words_at code mem) ≡ record { overflow = false; reads = reads; value = Some w }
  pub inside : find (is_outside code (stands mem [] []).store (group_at mem [] []) (item_at mem [] [])) (reads ++ record { cell = Array k; index = i } ∷ []) ≡ None
  pub known : find (is_unset code (stands mem [] []).store (group_at mem [] []) (item_at mem [] [])) reads ≡ None

pub step_assigns : (code : Code) (params : List ℤ) (mem : Memory) (number k : ℕ) (index : Env → Option ℤ) (value : Env → Words → Seen Word) (tasks : List Task) (loops : List (ℕ × ℤ)) (i : ℤ) (reads : List Touch) (w : Word)
    → group_size code ≡ 1 → NoWait tasks → IsOwn mem.history → Assigns code params mem loops k index value i reads w
    → one_step code params (stands mem (begin (set number (Array k) index value) ∷ tasks) loops) 0 ≡ Some (stands (assigned code mem k i reads w) tasks loops)
step_assigns code params mem number k index value tasks loops i reads w one on own a =
    one_step_only code params (stands mem (begin (set number (Array k) index value) ∷ tasks) loops) one
    ∙ ap (λ (m : Move). state_after (moved_only code mem (begin (set number (Array k) index value) ∷ tasks) loops m))
    (ap (λ (o : Option ℤ). sets (item_at mem (begin (set number (Array k) index value) ∷ tasks) loops) tasks (Array k) o (value (env_at code params loops) (words_at code mem))) a.index_is
    ∙ ap (λ (s : Seen Word). sets (item_at mem (begin (set number (Array k) index value) ∷ tasks) loops) tasks (Array k) (Some i) s) a.value_is)
    ∙ ap state_after (clean false _ _ _ (settled 0 (stands (assigned code mem k i reads w) tasks loops).store (assigned code mem k i reads w).history) refl a.inside a.known
    (own_first_clash mem.history _ own (own_accesses code mem k i reads w)))
    ∙ settles (assigned code mem k i reads w) tasks loops on
