-- What the scan decides, or the chain.
use Rattle.totals.proofs.Totalled.{early-asks, early-told, exact-asks, end-told, stopped-told}
use Rattle.totals.proofs.lists.total.Goals as goal

pub special-requires : goal.special-requires
special-requires g c =
    let a = c.args in
    let h = c.requires in
    let (encodes, alone) = early-asks a.shape _ a.products a.infinity_first _ a.scan.now _ c.decided.ensures.0 _ c.in-Some.is h.summable.0 h.summable.1 in
    (h.known.0, encodes, alone)

pub returns-in-Some : goal.returns-in-Some
returns-in-Some g c =
    let a = c.args in
    early-told a.shape _ a.products a.infinity_first _ a.scan.now _ c.decided.ensures.0 _ c.in-Some.is _ _ c.special.ensures

pub within-requires : goal.within-requires
within-requires g c =
    let a = c.args in
    let h = c.requires in
    let b = exact-asks a.shape _ a.products a.infinity_first _ a.scan.now _ c.decided.ensures.0 c.in-None.is h.summable.0 h.summable.1 c.digits.ensures in
    (b.0, b.1, h.known.2)

pub finish-requires : goal.finish-requires
finish-requires g c = (c.requires.known.0, c.requires.known.1, (rw c.digits.ensures at c.in-Ok.ensures).0.ended)

pub returns-in-Ok : goal.returns-in-Ok
returns-in-Ok g c =
    let a = c.args in
    let h = c.requires in
    end-told a.shape _ a.products a.infinity_first _ a.scan.now _ c.decided.ensures.0 c.in-None.is h.summable.0 h.known.1 _ _
    (rw c.digits.ensures at c.in-Ok.ensures) _ c.finish.ensures

pub returns-in-Err : goal.returns-in-Err
returns-in-Err g c =
    let a = c.args in
    let h = c.requires in
    stopped-told a.shape _ a.products a.infinity_first _ a.scan.now _ c.decided.ensures.0 c.in-None.is h.summable.0 h.known.1 _ _
    (rw c.digits.ensures at c.in-Err.ensures)
