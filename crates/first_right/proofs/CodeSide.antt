-- The code of the one form is right: it stores the input's words, each times the factor.
use Rattle.std.proofs.Common.{◌≡◌, ◌<◌, ◌≤◌, ℕ, zero, suc, ◌+◌, ◌*◌, ◌^◌, ℤ, pos, negsuc, ◌+ℤ◌, ◌-ℤ◌, ◌≤ℤ◌, map, replicate, Bool, true, false, not, nat_lt, List, [], ◌∷◌, ◌++◌, length, Option, Some, None, slice_get, slice_set, slice_index_or, is_none, refl, ◌∙◌, sym, ap, subst, cond, arith, unsigned_abs}
use Rattle.std.proofs.lemmas.Int.{ints}
use Rattle.std.proofs.lemmas.Option.{slice_get-get_or}
use Rattle.std.proofs.lemmas.List.{length-set}
use Rattle.wrap_words.specs.declared.kind.Word.{Word}
use Rattle.expr_tree.specs.declared.tree.Cell.TheVariants.{Array}
use Rattle.code_tree.specs.declared.code.CodeCell.{CodeCell}
use Rattle.code_tree.specs.Cells.{cells_in}
use Rattle.code_meaning.specs.Seen.{Touch}
use Rattle.code_meaning.specs.Plan.{Fresh, Acts, next, none, lengths_of}
use Rattle.code_meaning.specs.States.{Task, begin, again, Access}
use Rattle.code_meaning.specs.Moves.{begins, zero_word}
use Rattle.code_meaning.specs.Steps.{enabled, opening}
use Rattle.code_meaning.specs.Counts.{step_count}
use Rattle.code_meaning.specs.Runs.{IsRight}
use Rattle.code_meaning.specs.Alone.{Memory, spot, Comes, Turns, env_at, state_at}
use Rattle.code_meaning.proofs.Alone.{whole_loop, empty_loop}
use Rattle.code_meaning.proofs.Right.{only_one, right_alone}
use Rattle.code_meaning.proofs.Sets.{IsOwn, Assigns, step_assigns}
use Rattle.code_meaning.proofs.Numbers.{exact_small}
use Rattle.first_form.specs.declared.form.FirstForm.{FirstForm}
use Rattle.first_form.specs.Codes.{code_of}
use Rattle.first_right.specs.Product.{multiplied}
use Rattle.first_right.proofs.CodePlan.{upper, lower, index, value, no_cells, set_act, loop_act, plan_is, no_cells_there, count_is}
use Rattle.first_right.proofs.CodeValue.{lower_is, upper_is, index_is, value_is, input_at}

abbrev word_at : List Word → ℕ → Word
word_at a c = slice_index_or a c zero_word

-- the output after so many turns
abbrev pub outs : ℕ → List Word → List Word → ℕ → List Word
outs factor a out zero = out
outs factor a out (suc c) = slice_set (outs factor a out c) c (multiplied factor (word_at a c))

abbrev access : Bool → Touch → Access
access write touch = record { group = 0; item = 0; passed = 0; write = write; touch = touch }

abbrev output_at : ℤ → Touch
output_at i = record { cell = Array 1; index = i }

abbrev history_of : ℕ → List Access
history_of zero = []
history_of (suc c) = history_of c ++ access false (input_at (pos c)) ∷ access true (output_at (pos c)) ∷ []

abbrev mem_at : ℕ → List Word → List Word → ℕ → Memory
mem_at factor a out c = record { arrays = a ∷ outs factor a out c ∷ []; history = history_of c; locals = []; cells = []; passed = 0 }

own_append : (xs : List Access) (t u : Touch) → IsOwn xs → IsOwn (xs ++ access false t ∷ access true u ∷ [])
own_append [] t u h = (refl, (refl, tt))
own_append (x ∷ xs) t u h = (h.0, own_append xs t u h.1)

own_history : (c : ℕ) → IsOwn (history_of c)
own_history zero = tt
own_history (suc c) = own_append (history_of c) (input_at (pos c)) (output_at (pos c)) (own_history c)

slice_there : (xs : List Word) (c : ℕ) → c < length xs → slice_get xs c ≡ Some (word_at xs c)
slice_there xs c h = slice_get-get_or xs c zero_word h

outs_length : (factor : ℕ) (a out : List Word) (c : ℕ) → length (outs factor a out c) ≡ length out
outs_length factor a out zero = refl
outs_length factor a out (suc c) = length-set (outs factor a out c) c (multiplied factor (word_at a c)) ∙ outs_length factor a out c

is_less : (c n : ℕ) → c < n → nat_lt c n ≡ true
is_less c n h = grind arith

two_inside : (c m n : ℕ) (t u : Touch) → nat_lt c m ≡ true → nat_lt c n ≡ true → cond (not (nat_lt c m)) (Some t) (cond (not (nat_lt c n)) (Some u) None) ≡ None
two_inside c m n t u e f = rw (e, f) refl

none_unset : (o : Option Word) (t : Touch) (w : Word) → o ≡ Some w → cond (is_none o) (Some t) None ≡ None
none_unset o t w e = rw e refl

fits_there : (z : ℤ) (m : ℕ) → pos 0 ≤ℤ z → z ≤ℤ (pos (suc m) -ℤ pos 1) → suc m < 2 ^ 31 → unsigned_abs (z +ℤ pos 1) < 2 ^ 63
fits_there z m low high small = omega (arith, ints, low, high, small)

last_is : (m : ℕ) → unsigned_abs ((pos (suc m) -ℤ pos 1) +ℤ pos 1) ≡ suc m
last_is m = omega (arith, ints)

next_is : (c : ℕ) → suc c ≡ unsigned_abs (pos c +ℤ pos 1)
next_is c = omega (arith, ints)

outs_later : (factor : ℕ) (x y : Word) (a out : List Word) (c : ℕ) → outs factor (x ∷ a) (y ∷ out) (suc c) ≡ multiplied factor x ∷ outs factor a out c
outs_later factor x y a out zero = refl
outs_later factor x y a out (suc c) = ap (λ (ws : List Word). slice_set ws (suc c) (multiplied factor (word_at a c))) (outs_later factor x y a out c)

outs_all : (factor : ℕ) (a out : List Word) → length out ≡ length a → outs factor a out (length a) ≡ map (multiplied factor) a
outs_all factor [] [] e = refl
outs_all factor [] (y ∷ out) e = absurd (cc)
outs_all factor (x ∷ a) [] e = absurd (cc)
outs_all factor (x ∷ a) (y ∷ out) e = outs_later factor x y a out (length a) ∙ ap (λ (ws : List Word). multiplied factor x ∷ ws) (outs_all factor a out (omega (arith, e)))

module _ (f : FirstForm) (a out : List Word) where
  abbrev mem : ℕ → Memory
  mem c = mem_at f.factor a out c

  abbrev more : List Task
  more = again 0 1 upper no_cells (next (set_act f) none) ∷ []

  assigns : (n c : ℕ) → c < n → n < 2 ^ 31 → length a ≡ n → length out ≡ n
      → Assigns (code_of f) (pos n ∷ []) (mem c) ((1, pos c) ∷ []) 1 index (value f) (pos c) (input_at (pos c) ∷ []) (multiplied f.factor (word_at a c))
  assigns n c h small la lo = let there : c < length a = subst (λ (k : ℕ). c < k) (sym la) h in record {
    index_is = index_is _ c refl (omega (arith, h, small));
    value_is = value_is f _ _ c (word_at a c) refl (omega (arith, h, small)) (slice_there a c there);
    inside = two_inside c (length a) (length (outs f.factor a out c)) _ _ (is_less c (length a) there) (is_less c (length (outs f.factor a out c)) (subst (λ (k : ℕ). c < k) (sym (outs_length f.factor a out c ∙ lo)) h));
    known = none_unset _ (input_at (pos c)) (word_at a c) (slice_there a c there);
  }

  turn_there : (m : ℕ) → suc m < 2 ^ 31 → length a ≡ suc m → length out ≡ suc m → (z : ℤ) → pos 0 ≤ℤ z → z ≤ℤ (pos (suc m) -ℤ pos 1)
      → Comes (code_of f) (pos (suc m) ∷ []) 1 (spot (mem (unsigned_abs z)) (begin (set_act f) ∷ more) ((1, z) ∷ [])) (spot (mem (unsigned_abs (z +ℤ pos 1))) more ((1, z) ∷ []))
  turn_there m small la lo (pos c) low high =
      let less : c < suc m = omega (arith, ints, high) in (
        spot (mem (suc c)) more ((1, pos c) ∷ []),
        step_assigns (code_of f) (pos (suc m) ∷ []) (mem c) 1 1 index (value f) more ((1, pos c) ∷ []) (pos c) (input_at (pos c) ∷ []) (multiplied f.factor (word_at a c))
            refl tt (own_history c) (assigns (suc m) c less small la lo),
        ap (λ (k : ℕ). spot (mem k) more ((1, pos c) ∷ [])) (next_is c),
      )
  turn_there m small la lo (negsuc c) low high = absurd (omega (arith, ints, low))

  -- the loop's turns, from 0 to n - 1
  the_turns : (m : ℕ) → suc m < 2 ^ 31 → length a ≡ suc m → length out ≡ suc m
      → Turns (code_of f) (pos (suc m) ∷ []) 0 1 upper no_cells (next (set_act f) none) [] [] (pos 0) (pos (suc m) -ℤ pos 1) 1 (λ z. mem (unsigned_abs z))
  the_turns m small la lo = record {
    one = refl;
    on = tt;
    bound = λ z low high. upper_is _ (suc m) refl small;
    fits = λ z low high. exact_small (z +ℤ pos 1) (fits_there z m low high small);
    starts = tt;
    body_does = λ z low high. turn_there m small la lo z low high;
  }

  -- the run with at least one turn
  some_turns : (m : ℕ) → suc m < 2 ^ 31 → length a ≡ suc m → length out ≡ suc m
      → Comes (code_of f) (pos (suc m) ∷ []) (1 + (1 + m) * (1 + 1)) (spot (mem 0) (begin (loop_act f) ∷ []) []) (spot (mem (suc m)) [] [])
  some_turns m small la lo =
      subst (λ (k : ℕ). Comes (code_of f) (pos (suc m) ∷ []) (1 + (1 + m) * (1 + 1)) (spot (mem 0) (begin (loop_act f) ∷ []) []) (spot (mem k) [] [])) (last_is m)
      (whole_loop (code_of f) (pos (suc m) ∷ []) 0 1 upper no_cells (next (set_act f) none) [] [] (pos 0) (pos (suc m) -ℤ pos 1) 1 (λ z. mem (unsigned_abs z)) (the_turns m small la lo)
      lower m (lower_is (env_at (code_of f) (pos (suc m) ∷ []) [])) (upper_is _ (suc m) refl small) (omega (arith, ints)))

  -- the run without a turn
  no_turn : Comes (code_of f) (pos 0 ∷ []) 1 (spot (mem 0) (begin (loop_act f) ∷ []) []) (spot (mem 0) [] [])
  no_turn =
      empty_loop (code_of f) (pos 0 ∷ []) 0 1 lower upper no_cells (next (set_act f) none) [] [] (pos 0) (negsuc 0) (mem 0) refl tt
      (lower_is (env_at (code_of f) (pos 0 ∷ []) [])) (upper_is (env_at (code_of f) (pos 0 ∷ []) []) 0 refl (omega arith)) refl

  opens : (n : ℕ) → opening (code_of f) (record { params = pos n ∷ []; arrays = a ∷ out ∷ [] }) ≡ state_at (spot (mem 0) (begin (loop_act f) ∷ []) [])
  opens n =
      ap (λ (p : Fresh × Acts). record { store = record { arrays = a ∷ out ∷ []; groups = record { cells = []; items = record { tasks = begins p.1 []; loops = []; cells = map (λ n. replicate n zero_word) (lengths_of (cells_in (code_of f).body)); passed = 0 } ∷ [] } ∷ [] }; history = [] }) (plan_is f)
      ∙ ap (λ (cs : List CodeCell). record { store = record { arrays = a ∷ out ∷ []; groups = record { cells = []; items = record { tasks = begin (loop_act f) ∷ []; loops = []; cells = map (λ n. replicate n zero_word) (lengths_of cs); passed = 0 } ∷ [] } ∷ [] }; history = [] }) (no_cells_there f)

  stops : (k item : ℕ) → enabled (code_of f) (state_at (spot (mem k) [] [])) item ≡ false
  stops k zero = refl
  stops k (suc j) = only_one (code_of f) (spot (mem k) [] []) j refl

  short_none : 1 ≤ step_count (code_of f) (pos 0 ∷ [])
  short_none = subst (λ (k : ℕ). 1 ≤ k) (sym (count_is f 0 (omega arith))) (omega arith)

  short_some : (m : ℕ) → suc m < 2 ^ 31 → 1 + (1 + m) * 2 ≤ step_count (code_of f) (pos (suc m) ∷ [])
  short_some m small = let c = count_is f (suc m) small in omega (arith, c)

  ends_as : (n : ℕ) → (s : ℕ) → length a ≡ n → length out ≡ n
      → Comes (code_of f) (pos n ∷ []) s (spot (mem 0) (begin (loop_act f) ∷ []) []) (spot (mem n) [] []) → s ≤ step_count (code_of f) (pos n ∷ [])
      → IsRight (code_of f) (record { params = pos n ∷ []; arrays = a ∷ out ∷ [] }) (map (multiplied f.factor) a ∷ [])
  ends_as n s la lo comes short =
      subst (λ (ws : List Word). IsRight (code_of f) (record { params = pos n ∷ []; arrays = a ∷ out ∷ [] }) (ws ∷ []))
      (ap (outs f.factor a out) (sym la) ∙ outs_all f.factor a out (lo ∙ sym la))
      (right_alone (code_of f) (record { params = pos n ∷ []; arrays = a ∷ out ∷ [] }) (outs f.factor a out n ∷ []) s
      (spot (mem 0) (begin (loop_act f) ∷ []) []) (spot (mem n) [] []) refl (opens n) comes (stops n) short refl refl)

-- the code of the one form is right for every number of words
pub code_side : (f : FirstForm) (n : ℕ) (a out : List Word) → n < 2 ^ 31 → length a ≡ n → length out ≡ n
    → IsRight (code_of f) (record { params = pos n ∷ []; arrays = a ∷ out ∷ [] }) (map (multiplied f.factor) a ∷ [])
code_side f zero a out small la lo = ends_as f a out 0 1 la lo (no_turn f a out) (short_none f a out)
code_side f (suc m) a out small la lo = ends_as f a out (suc m) (1 + (1 + m) * 2) la lo (some_turns f a out m small la lo) (short_some f a out m small)
