-- What csv's read ensures, as what it does to the records that are left.
use Rattle.csv.specs.Records.{fields_of}
use Rattle.wrp_records.proofs.Taking.{took_none, took_record}
use Rattle.wrp_records.proofs.records.Records.next.Goals as goal

pub invariant_of-self : goal.invariant_of-self
invariant_of-self c = λ going.
    let now = c.self.invariant c.if-self.false in
    let read = c.in-Ok-true.ensures in
    let took = took_record c.self.inside.reader c.read_byte_record.new.self (fields_of c.read_byte_record.new.row) now
    (read.ready now.trim) read.flexible (rw c.in-Ok-true.field-0-test at (read.reads now.trim now.ready)) in
    took.reader

pub returns-in-Ok-true-clause-found : goal.returns-in-Ok-true-clause-found
returns-in-Ok-true-clause-found c =
    let now = c.self.invariant c.if-self.false in
    let read = c.in-Ok-true.ensures in
    let took = took_record c.self.inside.reader c.read_byte_record.new.self (fields_of c.read_byte_record.new.row) now
    (read.ready now.trim) read.flexible (rw c.in-Ok-true.field-0-test at (read.reads now.trim now.ready)) in
    rw (← c.self.view_is, c.if-self.false) took.first

pub returns-in-Ok-false-clause-found : goal.returns-in-Ok-false-clause-found
returns-in-Ok-false-clause-found c =
    let now = c.self.invariant c.if-self.false in
    rw (← c.self.view_is, c.if-self.false) (took_none c.self.inside.reader c.read_byte_record.new.self (fields_of c.read_byte_record.new.row) now
    (rw c.in-Ok-false.field-0-test at (c.in-Ok-false.ensures.reads now.trim now.ready)))
