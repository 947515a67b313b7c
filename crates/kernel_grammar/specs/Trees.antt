-- Expressions: a type for each production. What stands loosest is at the root, and equal levels group to the left.
use Rattle.std.specs.Prelude.{ℕ, List}
use Rattle.wrap_words.specs.declared.kind.Kind.{Kind}
use Rattle.kernel_grammar.specs.declared.step.Extreme.{Extreme}
use Rattle.kernel_grammar.specs.Words.{Name}

-- rel = "<=" | "<" | ">=" | ">" | "=" | "=="
pub data Rel : Type 0 where
  at_most less at_least more equal equals : Rel

-- over = name | "(" names ")"
pub data Over : Type 0 where
  bare : Name → Over
  names : (first : Name) (more : List Name) → Over

mutual
  -- or = and {"or" and}
  pub data Or : Type 0 where
    or_of : And → Or
    or : Or → And → Or

  -- and = not {"and" not}
  pub data And : Type 0 where
    and_of : Not → And
    and : And → Not → And

  -- not = "not" not | cmp
  pub data Not : Type 0 where
    not_of : Cmp → Not
    not : Not → Not

  -- cmp = bor [(rel | "!=") bor]
  pub data Cmp : Type 0 where
    cmp_of : Bor → Cmp
    related : Bor → Rel → Bor → Cmp
    unequal : Bor → Bor → Cmp

  -- bor = bxor {"|" bxor}
  pub data Bor : Type 0 where
    bor_of : Bxor → Bor
    bor : Bor → Bxor → Bor

  -- bxor = band {"^" band}
  pub data Bxor : Type 0 where
    bxor_of : Band → Bxor
    bxor : Bxor → Band → Bxor

  -- band = shift {"&" shift}
  pub data Band : Type 0 where
    band_of : Shift → Band
    band : Band → Shift → Band

  -- shift = sum {("<<" | ">>") number}
  pub data Shift : Type 0 where
    shift_of : Sum → Shift
    left : Shift → (digits : List ℕ) → Shift
    right : Shift → (digits : List ℕ) → Shift

  -- sum = prod {("+" | "-") prod}
  pub data Sum : Type 0 where
    sum_of : Prod → Sum
    plus : Sum → Prod → Sum
    minus : Sum → Prod → Sum

  -- sums = sum {"," sum}
  pub data Sums : Type 0 where
    one : Sum → Sums
    first : Sum → Sums → Sums

  -- prod = unary {("*" | "//" | "%") unary}
  pub data Prod : Type 0 where
    prod_of : Unary → Prod
    times : Prod → Unary → Prod
    quotient : Prod → Unary → Prod
    remainder : Prod → Unary → Prod

  -- unary = ("-" | "~") unary | atom
  pub data Unary : Type 0 where
    unary_of : Atom → Unary
    negated : Unary → Unary
    inverted : Unary → Unary

  -- atom = number | number name | name ["[" exprs "]"] | name "(" [exprs] ")"
  --      | ("sum" | "product") "(" over "," or ")"
  --      | ("min" | "max") "(" or "," or ")", which is over a name where the first place is one, bare or in parentheses
  --      | ("min" | "max") "(" "(" names ")" "," or ")", where the names are two or more
  --      | "cast" "(" kind "," or ")" | "if" "(" or "," or "," or ")" | "(" or ")"
  pub data Atom : Type 0 where
    digits : List ℕ → Atom
    multiple : List ℕ → Name → Atom
    named : Name → Atom
    indexed : Name → Sums → Atom
    called : Name → Atom
    called_at : Name → Sums → Atom
    sum : Over → Or → Atom
    product : Over → Or → Atom
    extreme : Extreme → Or → Or → Atom
    extreme_over : Extreme → (first second : Name) (more : List Name) → Or → Atom
    cast : Kind → Or → Atom
    choice : Or → Or → Or → Atom
    grouped : Or → Atom
