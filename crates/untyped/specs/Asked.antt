-- The first place at fault of an expression whose kind is asked, values and tests told apart.
use Rattle.std.specs.Prelude.{ℕ, ◌&&◌, nat_lt, Bool, true, Option, Some, None, unwrap_or}
use Rattle.std.specs.Option.{option_or}
use Rattle.wrap_words.specs.declared.kind.Kind.{Kind}
use Rattle.wrap_words.specs.Words.{modulus_of, width_of}
use Rattle.expr_tree.specs.Value.{is_unsigned, first_of_two}
use Rattle.kernel_grammar.specs.declared.step.Prefix.{Prefix}
use Rattle.kernel_grammar.specs.declared.step.Prefix.TheVariants.{Not}
use Rattle.kernel_grammar.specs.declared.step.Infix.{Infix}
use Rattle.kernel_grammar.specs.declared.step.Infix.TheVariants as infixed
use Rattle.kind_faults.specs.declared.faults.Mismatch.{Mismatch}
use Rattle.kind_faults.specs.Faults as faults
use Rattle.kind_faults.specs.Faults.{Judged, misplaced, unless, kind_fault, read_fault, side_kind}
use Rattle.untyped.specs.declared.tree.Term.TheOpen.{Term-F, Untyped-F}
use Rattle.untyped.specs.declared.tree.Untyped.{Untyped, fold-Untyped}
use Rattle.untyped.specs.declared.kinds.Sort.{Sort}
use Rattle.untyped.specs.declared.kinds.Sort.TheVariants.{Arithmetic, Extreme, Division, Comparison, Joining}

-- What an expression is where a value of a kind is wanted, and its first fault in text order where a test is wanted in a node that is
-- asked for a kind.
pub record Asked : Type 0 where
  pub value : Judged
  pub test : Kind → Option Mismatch

-- the kinds of cells, and what uses of rules are
abbrev pub Known : Type 0
Known = faults.Known Asked

abbrev pub sort_of : Infix → Sort
sort_of infixed.Or = Joining
sort_of infixed.And = Joining
sort_of (infixed.Compare relation) = Comparison
sort_of infixed.NotEqual = Comparison
sort_of infixed.Divide = Division
sort_of infixed.Remainder = Division
sort_of (infixed.Extreme which) = Extreme
sort_of _ = Arithmetic

abbrev pub infix_first : Sort → Asked → Asked → Option Kind
infix_first Comparison a b = None
infix_first Joining a b = None
infix_first _ a b = first_of_two a.value.first b.value.first

-- the kind of the two sides of a comparison
abbrev pub sides : Asked → Asked → Kind → Kind
sides a b = side_kind a.value b.value

-- where a value is wanted: an operator that gives none is at fault at its sign, behind its first operand
abbrev pub infix_value : Sort → Asked → Asked → Kind → Option Mismatch
infix_value Arithmetic a b k = option_or (a.value.fault k) (b.value.fault k)
infix_value Extreme a b k = option_or (a.value.fault k) (b.value.fault k)
infix_value Division a b k = option_or (a.value.fault k) (misplaced k)
infix_value Comparison a b k = option_or (a.value.fault (sides a b k)) (misplaced k)
infix_value Joining a b k = option_or (a.test k) (misplaced k)

-- where a test is wanted, likewise; `min` and `max` stand before their operands
abbrev pub infix_test : Sort → Asked → Asked → Kind → Option Mismatch
infix_test Arithmetic a b k = option_or (a.value.fault k) (misplaced k)
infix_test Extreme a b k = misplaced k
infix_test Division a b k = option_or (a.value.fault k) (misplaced k)
infix_test Comparison a b k = option_or (a.value.fault (sides a b k)) (b.value.fault (sides a b k))
infix_test Joining a b k = option_or (a.test k) (b.test k)

abbrev pub prefix_asked : Prefix → Asked → Asked
prefix_asked Not a = record { value = record { first = None; fault = misplaced }; test = a.test }
prefix_asked _ a = record { value = a.value; test = misplaced }

abbrev pub shift_asked : (Kind → Bool) → ℕ → Asked → Asked
shift_asked fits by a = record {
  value = record { first = a.value.first; fault = λ k. option_or (a.value.fault k) (unless (fits k && nat_lt by (width_of k)) k) };
  test = λ k. option_or (a.value.fault k) (misplaced k);
}

-- One term, with what is asked of each part in its place.
abbrev pub term_asked : Known → Term-F Asked Asked → Asked
term_asked w (Term-F.Index form constant) = record { value = record { first = None; fault = λ k. None }; test = misplaced }
term_asked w (Term-F.Literal n) = record { value = record { first = None; fault = λ k. unless (nat_lt n (modulus_of k)) k }; test = misplaced }
term_asked w (Term-F.Read cell place) = record {
  value = record { first = w.cell cell; fault = read_fault (w.cell cell) };
  test = λ k. Some (record { wanted = k; found = w.cell cell });
}
term_asked w (Term-F.Use rule arguments) = w.call rule
term_asked w (Term-F.Prefix op a) = prefix_asked op a
term_asked w (Term-F.Infix op a b) = record {
  value = record { first = infix_first (sort_of op) a b; fault = infix_value (sort_of op) a b };
  test = infix_test (sort_of op) a b;
}
term_asked w (Term-F.ShiftLeft a by) = shift_asked (λ k. true) by a
term_asked w (Term-F.ShiftRight a by) = shift_asked is_unsigned by a
term_asked w (Term-F.Cast to a) = record {
  value = record { first = Some to; fault = λ k. option_or (kind_fault to k) (a.value.fault (unwrap_or a.value.first to)) };
  test = λ k. Some (record { wanted = k; found = Some to });
}
term_asked w (Term-F.Choose t a b) = record {
  value = record {
    first = first_of_two a.value.first b.value.first;
    fault = λ k. option_or (t.test k) (option_or (a.value.fault k) (b.value.fault k));
  };
  test = misplaced;
}
term_asked w (Term-F.Fold how inames a) = record { value = a.value; test = misplaced }

abbrev pub tree_asked : Untyped-F Asked Asked → Asked
tree_asked e = e.term

abbrev pub asked_of : Known → Untyped → Asked
asked_of w = fold-Untyped Asked Asked (term_asked w) tree_asked
