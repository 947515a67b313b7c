-- Facts of each element of lists that are appended.
use Rattle.std.proofs.Common.{List, [], ◌∷◌, ◌++◌}
use Rattle.std.specs.List.{AllByRecursion}

pub recursion-left : {X : Type 0} (P : X → Type 0) (xs ys : List X) → AllByRecursion P (xs ++ ys) → AllByRecursion P xs
recursion-left P [] ys h = tt
recursion-left P (x ∷ xs) ys h = (h.0, recursion-left P xs ys h.1)

pub recursion-right : {X : Type 0} (P : X → Type 0) (xs ys : List X) → AllByRecursion P (xs ++ ys) → AllByRecursion P ys
recursion-right P [] ys h = h
recursion-right P (x ∷ xs) ys h = recursion-right P xs ys h.1

pub recursion-append : {X : Type 0} (P : X → Type 0) (xs ys : List X) → AllByRecursion P xs → AllByRecursion P ys → AllByRecursion P (xs ++ ys)
recursion-append P [] ys h k = k
recursion-append P (x ∷ xs) ys h k = (h.0, recursion-append P xs ys h.1 k)
