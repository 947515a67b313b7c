use Rattle.std.proofs.Common.{bytes_eq}
use Rattle.std.specs.String.{string_bytes}
use Rattle.affine_rows.proofs.NameSets.{distinct_map}
use Rattle.affine_rows.proofs.name.Names.new.Goals as goal

pub invariant_of-result : goal.invariant_of-result
invariant_of-result c = distinct_map string_bytes bytes_eq c.new.result.keys c.new.ensures.unique
