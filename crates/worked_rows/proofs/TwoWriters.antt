-- What the two writers of one cell store.
use Rattle.std.specs.Prelude.{◌≡◌, ◌⊎◌, suc, ℤ, pos, true, List, [], ◌∷◌, length, codes}
use Rattle.std.proofs.Common.{refl, sym, ap, ◌∙◌, subst, inl, inr, arith}
use Rattle.std.proofs.lemmas.List.Elements.{All-nil}
use Rattle.wrap_words.specs.declared.kind.Kind.TheVariants.{I32}
use Rattle.wrap_words.specs.declared.kind.Word.{Word}
use Rattle.wrap_words.specs.Words.{word_of}
use Rattle.kernel_ir.specs.declared.kernel.Insn.{Insn}
use Rattle.kernel_ir.specs.declared.kernel.Kernel.{Kernel}
use Rattle.step_orders.specs.Orders.{Has, Before}
use Rattle.inst_model.specs.Arguments.{Arguments, Meets, params_at}
use Rattle.inst_model.specs.Instances.{Instance, IsInstance, IsRespectingOrder, scene_of, directly_before}
use Rattle.inst_model.specs.Memory.{Memory, low_bits}
use Rattle.inst_model.specs.Running.{stored, steps_of, stored_spot, memory_after, opening, changed, world_of, sight_of}
use Rattle.inst_model.proofs.Kernels.{are_steps}
use Rattle.worked_rows.specs.Parts.{number}
use Rattle.worked_rows.specs.TwoWriters.{one, two, two_writers, zero_out, SecondWriterIsLast}
use Rattle.worked_rows.proofs.Meeting.{is_list}
use Rattle.worked_rows.proofs.Spots.{spot, spot_at, listed}
use Rattle.worked_rows.proofs.Turns.{Turn, turn, two_respect}
use Rattle.worked_rows.proofs.Values.{number_is, leaf_at}

abbrev K : Kernel
K = two_writers

abbrev a : Arguments
a = zero_out

meets : Meets K a
meets = record {
  numbers = refl;
  range = All-nil _;
  assumptions = refl;
  lists = (is_list (params_at K a) true (codes "out") (number 1) 1 (pos 0 ∷ []) (number_is (params_at K a) 1) (omega arith) refl, tt);
}

abbrev of_insn : Insn → Instance
of_insn A = record { insn = A; numbers = [] }

abbrev named : List Instance
named = of_insn one ∷ of_insn two ∷ []

no_numbers : (zs : List ℤ) → length zs ≡ 0 → zs ≡ []
no_numbers [] e = refl
no_numbers (z ∷ zs) e = absurd (let no : suc (length zs) ≡ 0 = e in omega (arith, no))

is_of : (x : Instance) (A : Insn) → A ≡ x.insn → length A.inames ≡ 0 → length x.numbers ≡ length x.insn.inames → of_insn A ≡ x
is_of x A e none l =
    ap of_insn e ∙ ap (λ (zs : List ℤ). record { insn = x.insn; numbers = zs }) (sym (no_numbers x.numbers (l ∙ ap (λ (B : Insn). length B.inames) (sym e) ∙ none)))

found : (x : Instance) → Has (one ∷ two ∷ []) x.insn → length x.numbers ≡ length x.insn.inames → Has named x
found x (inl e) l = inl (is_of x one e refl l)
found x (inr (inl e)) l = inr (inl (is_of x two e refl l))
found x (inr (inr h)) l = absurd h

is_instance : (x : Instance) → Has named x → IsInstance K a x
is_instance x (inl e) = subst (λ z. IsInstance K a z) e (record { insn = inl refl; numbers = refl; rows = refl })
is_instance x (inr (inl e)) = subst (λ z. IsInstance K a z) e (record { insn = inr (inl refl); numbers = refl; rows = refl })
is_instance x (inr (inr h)) = absurd h

differ : of_insn two ≡ of_insn one → ⊥
differ e = let lines : 4 ≡ 3 = ap (λ (x : Instance). x.insn.line) e in omega (arith, lines)

not_again : Has (of_insn two ∷ []) (of_insn one) → ⊥
not_again (inl e) = differ e
not_again (inr h) = h

named_respects : IsRespectingOrder K a named
named_respects = record {
  once = (not_again, ((λ h. h), tt));
  all = λ x is. found x is.insn is.numbers;
  only = is_instance;
  respects = two_respect (directly_before K) (of_insn one) (of_insn two) refl refl refl;
}

spot_is : stored_spot K a (of_insn two) ≡ spot 0 0
spot_is = ap (spot_at 0) (number_is (scene_of K a (of_insn two)).env 0)

leaves_two : (m : Memory) (w : Word) → changed K a (of_insn two) m w ≡ word_of I32 (pos 2)
leaves_two m w =
    ap (low_bits I32) (leaf_at (world_of K a (sight_of K a (of_insn two) m)) (scene_of K a (of_insn two)) I32 (number 2)
    ∙ ap (word_of I32) (number_is (scene_of K a (of_insn two)).env 2))

module _ (xs : List Instance) (order : IsRespectingOrder K a xs) where
  earlier : (y : Instance) → Has xs y → Has named y → (y ≡ of_insn two) ⊎ Before xs y (of_insn two)
  earlier y h (inl e) = inr (order.respects y (of_insn two) h (order.all (of_insn two) (is_instance (of_insn two) (inr (inl refl)))) (subst (λ z. directly_before K z (of_insn two) ≡ true) e refl))
  earlier y h (inr (inl e)) = inl (sym e)
  earlier y h (inr (inr g)) = absurd g

  last : Turn (steps_of K a) xs (opening K a) (of_insn two)
  last = turn (steps_of K a) (are_steps K a) xs (opening K a) (of_insn two) order.once (order.all (of_insn two) (is_instance (of_insn two) (inr (inl refl))))
      (λ y h e. earlier y h (found y (order.only y h).insn (order.only y h).numbers))

  word_is : memory_after K a xs (spot 0 0) ≡ word_of I32 (pos 2)
  word_is =
      ap (memory_after K a xs) (sym spot_is) ∙ last.is
      ∙ leaves_two (memory_after K a last.front) (memory_after K a last.front (stored_spot K a (of_insn two)))

  stores_two : stored K a xs ≡ (word_of I32 (pos 2) ∷ []) ∷ []
  stores_two =
      ap (λ (ws : List Word). ws ∷ []) (listed K a (memory_after K a xs) 0 (pos 1) (ap (λ (z : ℤ). z ∷ []) (number_is (params_at K a) 1)))
      ∙ ap (λ (w : Word). (w ∷ []) ∷ []) word_is

pub second_is_last : SecondWriterIsLast
second_is_last = record { meets = meets; order = named; respects = named_respects; always = stores_two }
