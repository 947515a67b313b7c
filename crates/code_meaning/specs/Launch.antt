-- The groups and items of a code, and the numbers of its variables.
use Rattle.std.specs.Prelude.{ℕ, ◌*◌, ◌/◌, ◌%◌, ℤ, pos, ◌+ℤ◌, ◌==◌, if◌then◌else◌, List, [], ◌∷◌, ◌++◌, unsigned_abs}
use Rattle.affine_rows.specs.Rows.{Env, env_of}
use Rattle.code_tree.specs.declared.code.Bound.{Bound}
use Rattle.code_tree.specs.declared.code.Code.{Code}
use Rattle.code_tree.specs.declared.code.Target.{Target}
use Rattle.code_tree.specs.declared.code.Target.TheVariants.{C, OpenCl}
use Rattle.code_meaning.specs.Exact.{greater}
use Rattle.code_meaning.specs.Ranges.{near, near_bound}
use Rattle.code_meaning.specs.States.{Item, Who}

-- one more than the bound of a group axis, and at least 1
abbrev pub launch_number : List ℤ → Bound → ℕ
launch_number params bound = unsigned_abs (greater (pos 1) (near (pos 1 +ℤ near_bound (env_of params) bound)))

-- a C code has one item
abbrev pub group_size_for : Target → Code → ℕ
group_size_for C code = 1
group_size_for OpenCl code = code.l0 * code.l1 * code.l2

-- how many groups there are
abbrev pub group_count_for : Target → Code → List ℤ → ℕ
group_count_for C code params = 1
group_count_for OpenCl code params =
    launch_number params code.g0 * launch_number params code.g1 * launch_number params code.g2

-- the items of a group
abbrev pub group_size : Code → ℕ
group_size code = group_size_for code.target code

-- the groups of a code
abbrev pub group_count : Code → List ℤ → ℕ
group_count code params = group_count_for code.target code params

-- the item of a number: items are counted by group, then by place
abbrev pub who_is : Code → ℕ → Who
who_is code number = record { group = number / group_size code; place = number % group_size code }

-- the three digits of a number, the first one fastest
abbrev pub digits : ℕ → ℕ → ℕ → List ℤ
digits n first second = pos (n % first) ∷ pos (n / first % second) ∷ pos (n / first / second) ∷ []

-- the numbers of the group axes and of the local axes
abbrev pub axes : Target → Code → List ℤ → Who → List ℤ
axes C code params who = []
axes OpenCl code params who =
    digits who.group (launch_number params code.g0) (launch_number params code.g1) ++ digits who.place code.l0 code.l1

-- the numbers of parameters and axes, in the order of the code's names
abbrev pub base_numbers : Code → List ℤ → Who → List ℤ
base_numbers code params who = params ++ axes code.target code params who

-- a variable's number: that of the innermost loop over it, else that of a parameter or axis
abbrev pub within : Env → List (ℕ × ℤ) → Env
within base [] v = base v
within base (l ∷ loops) v = if v == l.0 then l.1 else within base loops v

-- the numbers that an item sees
abbrev pub env_in : Code → List ℤ → Who → Item → Env
env_in code params who item = within (env_of (base_numbers code params who)) item.loops
