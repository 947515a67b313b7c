use Rattle.std.proofs.Common.{ℕ, ◌+◌, ◌*◌, arith, List, Option, None, map, min, drop, get_or, sym, ap, ◌∙◌, unwrap_or}
use Rattle.std.proofs.lemmas.List.{drop_more}
use Rattle.kernel_ir.specs.Limits.{product}
use Rattle.kernel_names.proofs.CellLaws.{capped}
use Rattle.kernel_names.proofs.shapes.cells.Goals as goal

pub entries-preserved : goal.entries-preserved
entries-preserved c =
    let shape = c.args.shape.now in
    let i = c.entries.entry-index in
    record {
      small = omega (arith, c.with_entry-cells.ensures);
      rest = capped c.entries.cells (unwrap_or (get_or shape i None) 0) (product (map (λ entry. unwrap_or entry 0) (drop (i + 1) shape))) c.with_entry-cells.result
          (min (product (map (λ entry. unwrap_or entry 0) shape)) 4097) c.with_entry-cells.ensures
          (ap (λ (xs : List (Option ℕ)). min (c.entries.cells * product (map (λ entry. unwrap_or entry 0) xs)) 4097) (sym (drop_more shape i None c.entries-test.true)) ∙ c.entries.invariant.rest);
    }
