use Rattle.fin_looplet.proofs.SameArms.{part, neg_arm, two_arm, pick_arm, times_arm, cell_arm, seek_arm, val_arm}
use Rattle.fin_looplet.proofs.point.+is_same.Goals as goal

pub returns-in-Neg-b : goal.returns-in-Neg-b
returns-in-Neg-b t c =
    neg_arm _ _ _ _ _ c.in-Neg.is c.in-Neg-b.is
    (part _ _ _ _ _ c.is_same.ensures c.get.ensures c.get-in-Neg-b.ensures)

pub returns-in-Two-b : goal.returns-in-Two-b
returns-in-Two-b t c =
    two_arm _ _ _ _ _ _ _ _ _ _ _ c.in-Two.is c.in-Two-b.is c.eq.ensures
    (part _ _ _ _ _ c.is_same-in-Two-b.ensures c.get-in-Two-b.ensures c.get-in-Two-b-2.ensures)
    (part _ _ _ _ _ c.is_same-in-Two-b-2.ensures c.get-in-Two-b-3.ensures c.get-in-Two-b-4.ensures)

pub returns-in-Pick-b : goal.returns-in-Pick-b
returns-in-Pick-b t c =
    pick_arm _ _ _ _ _ _ _ _ _ _ _ c.in-Pick.is c.in-Pick-b.is
    (part _ _ _ _ _ c.is_same-in-Pick-b.ensures c.get-in-Pick-b.ensures c.get-in-Pick-b-2.ensures)
    (part _ _ _ _ _ c.is_same-in-Pick-b-2.ensures c.get-in-Pick-b-3.ensures c.get-in-Pick-b-4.ensures)
    (part _ _ _ _ _ c.is_same-in-Pick-b-3.ensures c.get-in-Pick-b-5.ensures c.get-in-Pick-b-6.ensures)

pub returns-in-Times-b : goal.returns-in-Times-b
returns-in-Times-b t c =
    times_arm _ _ _ _ _ _ _ _ _ _ _ c.in-Times.is c.in-Times-b.is c.eq-in-Times-b.ensures
    (part _ _ _ _ _ c.is_same-in-Times-b.ensures c.get-in-Times-b.ensures c.get-in-Times-b-2.ensures)
    (part _ _ _ _ _ c.is_same-in-Times-b-2.ensures c.get-in-Times-b-3.ensures c.get-in-Times-b-4.ensures)

pub returns-in-Cell-b : goal.returns-in-Cell-b
returns-in-Cell-b t c =
    cell_arm _ _ _ _ _ _ _ _ _ _ _ _ c.in-Cell.is c.in-Cell-b.is c.eq-in-Cell-b.ensures
    (part _ _ _ _ _ c.is_same-in-Cell-b.ensures c.get-in-Cell-b.ensures c.get-in-Cell-b-2.ensures)

pub returns-in-Seek-b : goal.returns-in-Seek-b
returns-in-Seek-b t c =
    seek_arm _ _ _ _ _ _ _ _ _ _ _ _ _ _ _ c.in-Seek.is c.in-Seek-b.is
    (part _ _ _ _ _ c.is_same-in-Seek-b.ensures c.get-in-Seek-b.ensures c.get-in-Seek-b-2.ensures)
    (part _ _ _ _ _ c.is_same-in-Seek-b-2.ensures c.get-in-Seek-b-3.ensures c.get-in-Seek-b-4.ensures)
    (part _ _ _ _ _ c.is_same-in-Seek-b-3.ensures c.get-in-Seek-b-5.ensures c.get-in-Seek-b-6.ensures)

pub returns-in-Val-b : goal.returns-in-Val-b
returns-in-Val-b t c =
    val_arm _ _ _ _ _ _ _ c.in-Val.is c.in-Val-b.is
    (part _ _ _ _ _ c.is_same-in-Val-b.ensures c.get-in-Val-b.ensures c.get-in-Val-b-2.ensures)
