-- Additions on three cells, as steps.
use Rattle.std.proofs.Common.{◌≡◌, ℕ, ◌+◌, ◌%◌, ◌^◌, Bool, true, false, ◌⊎◌, inl, inr, arith, refl, ap}
use Rattle.std.specs.Prelude.{if◌then◌else◌}
use Rattle.step_orders.specs.declared.additions.Cell.{Cell}
use Rattle.step_orders.specs.declared.additions.Cell.TheVariants.{First, Second, Third}
use Rattle.step_orders.specs.Orders.{AreSteps}
use Rattle.step_orders.specs.Additions.{FreeWhereUnread, additions, same_cell}

cells_equal : (c d : Cell) → same_cell c d ≡ true → c ≡ d
cells_equal First First e = refl
cells_equal Second Second e = refl
cells_equal Third Third e = refl
cells_equal _ _ e = absurd (cc)

cell_itself : (c : Cell) → same_cell c c ≡ true
cell_itself First = refl
cell_itself Second = refl
cell_itself Third = refl

pub are_steps : AreSteps additions
are_steps = record {
  equal = cells_equal;
  itself = cell_itself;
  reads_only = λ x s t same w. ap (λ (v : ℕ). (w + v) % 2 ^ 64) (same x.from (inl refl));
}

other_cell : (c d : Cell) → (c ≡ d → ⊥) → (c ≡ d) ⊎ ⊥ → ⊥
other_cell c d other (inl e) = other e
other_cell c d other (inr h) = h

sums_swap : (w a b : ℕ) → ((w + a) % 2 ^ 64 + b) % 2 ^ 64 ≡ ((w + b) % 2 ^ 64 + a) % 2 ^ 64
sums_swap w a b = omega arith

pub free_where_unread : FreeWhereUnread
free_where_unread x y unread unread' = record {
  first = other_cell x.from y.into unread;
  second = other_cell y.from x.into unread';
  one_cell = λ _ s w. sums_swap w (s y.from) (s x.from);
}

-- the word that an addition makes, at its own cell and at another
pub added : (p : Bool) (c d : Cell) (s : Cell → ℕ) (v : ℕ) → same_cell c d ≡ p
    → (if p then (s c + v) % 2 ^ 64 else s d) ≡ (if p then (s d + v) % 2 ^ 64 else s d)
added true c d s v e = ap (λ (b : Cell). (s b + v) % 2 ^ 64) (cells_equal c d e)
added false c d s v e = refl
