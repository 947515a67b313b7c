use Rattle.std.proofs.Common.{◌<◌, length, refl, arith, rules, add-one}
use Rattle.host_io.specs.MemoryHost.{told_by, setup_of}
use Rattle.host_io.specs.Told.{next_count}
use Rattle.host_io.proofs.MemorySteps.{numbers_below-Contains, open_fails-place, open_cause, left_of-new-some, unread_of-new, unread_of-new_other}
use Rattle.host_io.proofs.memory.MemoryHostHost.open_file.Goals as goal

pub returns-in_default-clause-fails : goal.returns-in_default-clause-fails
returns-in_default-clause-fails c = open_fails-place (setup_of c.args.self.now) (told_by c.args.self.now) c.args.name.now c.args.self.now.files.items c.args.self.now.opened _ _ refl refl c.saturating_add-self.ensures c.in_default.ensures.fails

pub returns-in_default-clause-cause : goal.returns-in_default-clause-cause
returns-in_default-clause-cause c =
    open_cause c.args.self.now.fail_open.items c.args.self.now.fail_read.items c.args.self.now.fail_write.items c.args.self.now.room (next_count c.args.self.now.opens) _ _
    (open_fails-place (setup_of c.args.self.now) (told_by c.args.self.now) c.args.name.now c.args.self.now.files.items c.args.self.now.opened _ _ refl refl c.saturating_add-self.ensures c.in_default.ensures.fails)

pub returns-clause-fails : goal.returns-clause-fails
returns-clause-fails c = open_fails-place (setup_of c.args.self.now) (told_by c.args.self.now) c.args.name.now c.args.self.now.files.items c.args.self.now.opened _ _ refl refl c.saturating_add-self.ensures c.in-Some.ensures.fails

pub returns-clause-opened : goal.returns-clause-opened
returns-clause-opened c =
    let room : c.args.self.now.opened < length c.args.self.now.readers = search rules in
    record {
      fresh = λ held. omega (arith, numbers_below-Contains c.args.self.now.opened c.args.self.now.opened held);
      whole = (left_of-new-some c.args.self.now.files.items c.args.name.now c.in-Some.place c.in-Some.ensures.found, unread_of-new c.args.self.now.files.items c.args.self.now.readers c.args.name.now c.args.self.now.opened c.in-Some.place room c.in-Some.ensures.found);
      others = λ other apart. unread_of-new_other c.args.self.now.files.items c.args.self.now.readers c.args.self.now.opened other (record { place = c.in-Some.place; position = 0 }) apart;
      rest = rw add-one;
    }
