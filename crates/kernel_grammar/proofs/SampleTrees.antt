-- The trees of small texts.
use Rattle.std.specs.Prelude.{true, [], ◌∷◌, Some, None, codes}
use Rattle.std.proofs.Common.{refl}
use Rattle.wrap_words.specs.declared.kind.Kind.TheVariants.{I32, I64, U32}
use Rattle.kernel_grammar.specs.declared.item.Stored.TheVariants.{Plain, Update}
use Rattle.kernel_grammar.specs.declared.item.Declared.TheVariants as declared
use Rattle.kernel_grammar.specs.declared.step.Extreme.TheVariants.{Min}
use Rattle.kernel_grammar.specs.declared.step.Folding.TheVariants as folding
use Rattle.kernel_grammar.specs.Words.{Name}
use Rattle.kernel_grammar.specs.Trees.{at_most, less, Or, or_of, and_of, not_of, Cmp, cmp_of, related, Bor, bor_of, bxor_of, band_of, Shift, shift_of, left, Sum, sum_of, plus, minus, Sums, one, first, Prod, prod_of, times, unary_of, negated, Atom, digits, multiple, named, indexed, extreme, extreme_over, grouped}
use Rattle.kernel_grammar.specs.Lines.{Chain, id, dep, inames, condition, Insn, domain, assume, input, output, temp, rule, insn}
use Rattle.kernel_grammar.specs.Files.{File}
use Rattle.kernel_grammar.specs.Laws.{BareFirst, DoublingIsAFile, ListedFirst, ListsAreCompared, NamesAreCompared, NumbersMultiply, OptionsAreRead, RulesHaveParameters, ShapesAreNumbers, ShiftsAreLoose, SumsGroupToTheLeft, TwoListedFirst, ValueFirst}

abbrev i : Name
i = record { word = codes "i"; free = refl }

abbrev j : Name
j = record { word = codes "j"; free = refl }

abbrev n : Name
n = record { word = codes "n"; free = refl }

abbrev a : Name
a = record { word = codes "a"; free = refl }

abbrev b : Name
b = record { word = codes "b"; free = refl }

abbrev c : Name
c = record { word = codes "c"; free = refl }

abbrev x : Name
x = record { word = codes "x"; free = refl }

abbrev y : Name
y = record { word = codes "y"; free = refl }

abbrev out : Name
out = record { word = codes "out"; free = refl }

abbrev t : Name
t = record { word = codes "t"; free = refl }

abbrev f : Name
f = record { word = codes "f"; free = refl }

abbrev u : Name
u = record { word = codes "u"; free = refl }

abbrev v : Name
v = record { word = codes "v"; free = refl }

abbrev w : Name
w = record { word = codes "w"; free = refl }

-- what stands tighter as what stands looser
abbrev factor : Atom → Prod
factor atom = prod_of (unary_of atom)

abbrev term : Atom → Sum
term atom = sum_of (factor atom)

abbrev bits : Shift → Bor
bits shift = bor_of (bxor_of (band_of shift))

abbrev whole : Cmp → Or
whole cmp = or_of (and_of (not_of cmp))

abbrev shifted : Shift → Or
shifted shift = whole (cmp_of (bits shift))

abbrev summed : Sum → Or
summed sum = shifted (shift_of sum)

abbrev alone : Atom → Or
alone atom = summed (term atom)

abbrev at : Name → Name → Atom
at cell place = indexed cell (one (term (named place)))

pub shifts : ShiftsAreLoose
shifts = record {
  tree = shifted (left (shift_of (sum_of (times (prod_of (negated (unary_of (named x)))) (unary_of (named y))))) (codes "2"));
  spelled = refl;
  means = refl;
}

pub sums : SumsGroupToTheLeft
sums = record { tree = summed (minus (minus (term (named a)) (factor (named b))) (factor (named c))); spelled = refl; means = refl }

pub comparisons : NamesAreCompared
comparisons = record {
  tree = whole (related (bits (shift_of (term (named a)))) less (bits (shift_of (term (named b)))));
  spelled = refl;
  means = refl;
}

pub products : NumbersMultiply
products = record { tree = alone (multiple (codes "2") n); spelled = refl; means = refl }

pub bare : BareFirst
bare = record { tree = alone (extreme Min (alone (named i)) (alone (at a i))); spelled = refl; means = refl }

pub listed : ListedFirst
listed = record { tree = alone (extreme Min (alone (grouped (alone (named i)))) (alone (at a i))); spelled = refl; means = refl }

pub two : TwoListedFirst
two = record { tree = alone (extreme_over Min i j [] (alone (named i))); spelled = refl; means = refl }

pub value : ValueFirst
value = record {
  tree = alone (extreme Min (summed (plus (term (named i)) (factor (digits (codes "1"))))) (alone (digits (codes "2"))));
  spelled = refl;
  means = refl;
}

abbrev zero_to : Sums → Chain
zero_to list = record {
  first = one (term (digits (codes "0")));
  rel = at_most;
  second = list;
  more = (less, one (term (named n))) ∷ [];
}

pub lists : ListsAreCompared
lists = record { tree = assume (zero_to (first (term (named i)) (one (term (named j))))) []; spelled = refl; means = refl }

pub temps : ShapesAreNumbers
temps = record { tree = temp t U32 (codes "4" ∷ codes "2" ∷ []); spelled = refl; means = refl }

pub rules : RulesHaveParameters
rules = record { tree = rule f (x ∷ []) (alone (named x)); spelled = refl; means = refl }

abbrev below_three : Or
below_three = whole (related (bits (shift_of (term (named i)))) less (bits (shift_of (term (digits (codes "3"))))))

pub options : OptionsAreRead
options = record {
  tree = insn (record {
    declared = declared.Of I64;
    cell = t;
    place = None;
    stored = Update (folding.Extreme Min);
    value = alone (digits (codes "2"));
    options = Some (id w ∷ dep true (u ∷ v ∷ []) ∷ inames i [] ∷ condition below_three ∷ []);
  });
  spelled = refl;
  means = refl;
}

abbrev doubled : Insn
doubled = record {
  declared = declared.Not;
  cell = out;
  place = Some (one (term (named i)));
  stored = Plain;
  value = summed (sum_of (times (factor (digits (codes "2"))) (unary_of (at a i))));
  options = None;
}

abbrev tree : File
tree = record {
  before = 0;
  lines =
      Some (domain (n ∷ []) (i ∷ []) (zero_to (one (term (named i))) ∷ [])) ∷
      Some (input a I32 (one (term (named n)))) ∷
      Some (output out I32 (one (term (named n)))) ∷
      Some (insn doubled) ∷ [];
}

pub doubling : DoublingIsAFile
doubling = record { tree = tree; spelled = refl; means = refl }
