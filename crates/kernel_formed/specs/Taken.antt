-- Lists that hold some elements of others.
use Rattle.std.specs.Prelude.{ℕ, ◌≤◌, nat_eq, List, count_by}

-- No number stands in it more often than in the other list, whatever their order.
pub record IsTakenFrom (some all : List ℕ) : Type 0 where
  pub counts : (v : ℕ) → count_by (nat_eq v) some ≤ count_by (nat_eq v) all
