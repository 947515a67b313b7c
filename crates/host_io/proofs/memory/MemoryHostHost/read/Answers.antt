use Rattle.std.proofs.Common.{refl, ◌≡◌, ◌<◌, length, arith, rules, slice_index_or}
use Rattle.std.proofs.lemmas.Grind.{common_steps}
use Rattle.host_io.specs.Reader.{left_of}
use Rattle.host_io.proofs.MemorySteps.{numbers_below-Contains, unread_of-rest, unread_of-read, unread_of-read_other}
use Rattle.host_io.proofs.memory.MemoryHostHost.read.Goals as goal

pub bounds-self-number : goal.bounds-self-number
bounds-self-number c = let below : c.args.file < c.args.self.now.opened = numbers_below-Contains _ _ c.requires.is_open in search rules

pub bounds-self-number-2 : goal.bounds-self-number-2
bounds-self-number-2 c = let below : c.args.file < c.args.self.now.opened = numbers_below-Contains _ _ c.requires.is_open in search rules

pub returns-clause-taken : goal.returns-clause-taken
returns-clause-taken c =
    let below : c.args.file < c.args.self.now.opened = numbers_below-Contains _ _ c.requires.is_open in
    let within : c.args.file < length c.args.self.now.readers = search rules in
    let left : c.rest_of-rest.result.now ≡ left_of c.args.self.now.files.items (slice_index_or c.args.self.now.readers c.args.file record { place = 0; position = 0 }) = grind (arith, c.rest_of-rest.ensures.rest, c.deref-2.ensures.value) in
    record {
      bytes = unread_of-read c.args.self.now.files.items c.args.self.now.readers c.args.self.now.opened c.args.file record { place = 0; position = 0 } c.rest_of-rest.result.now _ c.min-count.result below within left (grind (arith, common_steps));
      others = λ other apart. unread_of-read_other c.args.self.now.files.items c.args.self.now.readers c.args.self.now.opened c.args.file other _ apart;
      rest = refl;
    }

pub returns-clause-exact : goal.returns-clause-exact
returns-clause-exact c =
    let below : c.args.file < c.args.self.now.opened = numbers_below-Contains _ _ c.requires.is_open in
    let within : c.args.file < length c.args.self.now.readers = search rules in
    let left : c.rest_of-rest.result.now ≡ left_of c.args.self.now.files.items (slice_index_or c.args.self.now.readers c.args.file record { place = 0; position = 0 }) = grind (arith, c.rest_of-rest.ensures.rest, c.deref-2.ensures.value) in
    rw (unread_of-rest c.args.self.now.files.items c.args.self.now.readers c.args.self.now.opened c.args.file _ _ below within left) (grind (arith, common_steps))

pub returns-clause-end : goal.returns-clause-end
returns-clause-end c none =
    let below : c.args.file < c.args.self.now.opened = numbers_below-Contains _ _ c.requires.is_open in
    let within : c.args.file < length c.args.self.now.readers = search rules in
    let left : c.rest_of-rest.result.now ≡ left_of c.args.self.now.files.items (slice_index_or c.args.self.now.readers c.args.file record { place = 0; position = 0 }) = grind (arith, c.rest_of-rest.ensures.rest, c.deref-2.ensures.value) in
    let zero : c.min-count.result ≡ 0 = cc in
    rw (unread_of-rest c.args.self.now.files.items c.args.self.now.readers c.args.self.now.opened c.args.file _ _ below within left) (grind (arith, common_steps))
