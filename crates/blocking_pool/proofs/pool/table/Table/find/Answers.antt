use Rattle.std.proofs.Common.{◌≡◌, sym, ap, ◌∙◌}
use Rattle.blocking_pool.specs.Tables.{found_of}
use Rattle.blocking_pool.proofs.ParkLemmas.{finds, finds_none}
use Rattle.blocking_pool.proofs.pool.table.Table.find.Goals as goal

pub returns-in_err-entry : goal.returns-in_err-entry
returns-in_err-entry g c =
    c.from_residual.ensures
    ∙ ap found_of (finds_none c.self.inside.entries c.self.inside.queue c.self.inside.parked
    c.args.self.now c.args.no c.place.result c.self.invariant c.self.view_is c.place.ensures
    (λ entry found. absurd (let gone = c.in_err-entry.ensures in cc)))

pub returns-then-entry-serial : goal.returns-then-entry-serial
returns-then-entry-serial g c =
    ap found_of (finds_none c.self.inside.entries c.self.inside.queue c.self.inside.parked
    c.args.self.now c.args.no c.place.result c.self.invariant c.self.view_is c.place.ensures
    (λ entry found same.
    let one : entry ≡ c.in_ok-entry.entry.now = let e = sym found ∙ sym c.in_ok-entry.ensures in
    cc in
    c.if-entry-serial.true (ap (λ e. e.serial) (sym one) ∙ same ∙ sym c.serial.ensures)))

pub returns : goal.returns
returns g c =
    finds c.self.inside.entries c.self.inside.queue c.self.inside.parked c.args.self.now c.args.no
    c.place.result c.in_ok-entry.entry.now c.self.invariant c.self.view_is c.place.ensures
    (sym c.in_ok-entry.ensures) (c.if-entry-serial.false ∙ c.serial.ensures)
