-- Pieces written one after the other.
use Rattle.std.proofs.Common.{◌≡◌, ◌++◌, append_assoc}
use Rattle.text_writer.specs.Bytes.{Bytes}

pub three : (o o1 o2 o3 a b c : Bytes) → o1 ≡ o ++ a → o2 ≡ o1 ++ b → o3 ≡ o2 ++ c → o3 ≡ o ++ (a ++ b ++ c)
three o o1 o2 o3 a b c e1 e2 e3 = rw (e3, e2, e1) (simp append_assoc)

pub four : (o o1 o2 o3 o4 a b c d : Bytes) → o1 ≡ o ++ a → o2 ≡ o1 ++ b → o3 ≡ o2 ++ c → o4 ≡ o3 ++ d → o4 ≡ o ++ (a ++ b ++ c ++ d)
four o o1 o2 o3 o4 a b c d e1 e2 e3 e4 = rw (e4, e3, e2, e1) (simp append_assoc)

pub five : (o o1 o2 o3 o4 o5 a b c d e : Bytes) → o1 ≡ o ++ a → o2 ≡ o1 ++ b → o3 ≡ o2 ++ c → o4 ≡ o3 ++ d → o5 ≡ o4 ++ e
    → o5 ≡ o ++ (a ++ b ++ c ++ d ++ e)
five o o1 o2 o3 o4 o5 a b c d e e1 e2 e3 e4 e5 = rw (e5, e4, e3, e2, e1) (simp append_assoc)

pub six : (o o1 o2 o3 o4 o5 o6 a b c d e f : Bytes) → o1 ≡ o ++ a → o2 ≡ o1 ++ b → o3 ≡ o2 ++ c → o4 ≡ o3 ++ d → o5 ≡ o4 ++ e → o6 ≡ o5 ++ f
    → o6 ≡ o ++ (a ++ b ++ c ++ d ++ e ++ f)
six o o1 o2 o3 o4 o5 o6 a b c d e f e1 e2 e3 e4 e5 e6 = rw (e6, e5, e4, e3, e2, e1) (simp append_assoc)
