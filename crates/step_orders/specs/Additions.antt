-- An example of steps: additions on three cells, modulo 2^64.
use Rattle.std.specs.Prelude.{◌≡◌, ℕ, ◌+◌, ◌%◌, ◌^◌, [], ◌∷◌, Bool, true, false}
use Rattle.step_orders.specs.declared.additions.Addition.{Addition}
use Rattle.step_orders.specs.declared.additions.Cell.{Cell}
use Rattle.step_orders.specs.declared.additions.Cell.TheVariants.{First, Second, Third}
use Rattle.step_orders.specs.declared.additions.Store.{Store}
use Rattle.step_orders.specs.Orders.{Free, Steps}

-- the word of a cell
abbrev pub word_at : Store → Cell → ℕ
word_at s First = s.first
word_at s Second = s.second
word_at s Third = s.third

-- whether two cells are one
abbrev pub same_cell : Cell → Cell → Bool
same_cell First First = true
same_cell Second Second = true
same_cell Third Third = true
same_cell _ _ = false

-- an addition changes the cell `into`, and reads the cell `from`
abbrev pub additions : Steps Addition Cell ℕ
additions = record {
  same = same_cell;
  cell = λ x. x.into;
  reads = λ x. x.from ∷ [];
  change = λ x s w. (w + s x.from) % 2 ^ 64;
}

-- two additions of which neither reads the other's cell are free of conflict
abbrev pub FreeWhereUnread : Type 0
FreeWhereUnread = (x y : Addition) → (x.from ≡ y.into → ⊥) → (y.from ≡ x.into → ⊥) → Free additions x y
