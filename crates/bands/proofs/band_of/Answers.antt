use mathlib.Core.Path.{refl}
use Rattle.bands.specs.Table.{band_of}
use Rattle.bands.proofs.Rows.{serves, passed}
use Rattle.bands.proofs.band_of.Goals as goal

pub returns-then-tp-le-TOP_BELOW_2 : goal.returns-then-tp-le-TOP_BELOW_2
unfolding band_of
returns-then-tp-le-TOP_BELOW_2 c = serves _ _ _ _ c.if-tp-le-TOP_BELOW_2.true

pub returns-then-tp-le-TOP_TO_5 : goal.returns-then-tp-le-TOP_TO_5
unfolding band_of
returns-then-tp-le-TOP_TO_5 c = passed _ _ _ _ _ c.if-tp-le-TOP_BELOW_2.false
    (serves _ _ _ _ c.if-tp-le-TOP_TO_5.true)

pub returns-then-tp-le-TOP_TO_10 : goal.returns-then-tp-le-TOP_TO_10
unfolding band_of
returns-then-tp-le-TOP_TO_10 c = passed _ _ _ _ _ c.if-tp-le-TOP_BELOW_2.false
    (passed _ _ _ _ _ c.if-tp-le-TOP_TO_5.false
    (serves _ _ _ _ c.if-tp-le-TOP_TO_10.true))

pub returns-then-tp-le-TOP_TO_20 : goal.returns-then-tp-le-TOP_TO_20
unfolding band_of
returns-then-tp-le-TOP_TO_20 c = passed _ _ _ _ _ c.if-tp-le-TOP_BELOW_2.false
    (passed _ _ _ _ _ c.if-tp-le-TOP_TO_5.false
    (passed _ _ _ _ _ c.if-tp-le-TOP_TO_10.false
    (serves _ _ _ _ c.if-tp-le-TOP_TO_20.true)))

pub returns-then-tp-le-TOP_TO_50 : goal.returns-then-tp-le-TOP_TO_50
unfolding band_of
returns-then-tp-le-TOP_TO_50 c = passed _ _ _ _ _ c.if-tp-le-TOP_BELOW_2.false
    (passed _ _ _ _ _ c.if-tp-le-TOP_TO_5.false
    (passed _ _ _ _ _ c.if-tp-le-TOP_TO_10.false
    (passed _ _ _ _ _ c.if-tp-le-TOP_TO_20.false
    (serves _ _ _ _ c.if-tp-le-TOP_TO_50.true))))

pub returns-then-tp-le-TOP_TO_100 : goal.returns-then-tp-le-TOP_TO_100
unfolding band_of
returns-then-tp-le-TOP_TO_100 c = passed _ _ _ _ _ c.if-tp-le-TOP_BELOW_2.false
    (passed _ _ _ _ _ c.if-tp-le-TOP_TO_5.false
    (passed _ _ _ _ _ c.if-tp-le-TOP_TO_10.false
    (passed _ _ _ _ _ c.if-tp-le-TOP_TO_20.false
    (passed _ _ _ _ _ c.if-tp-le-TOP_TO_50.false
    (serves _ _ _ _ c.if-tp-le-TOP_TO_100.true)))))

pub returns : goal.returns
unfolding band_of
returns c = passed _ _ _ _ _ c.if-tp-le-TOP_BELOW_2.false
    (passed _ _ _ _ _ c.if-tp-le-TOP_TO_5.false
    (passed _ _ _ _ _ c.if-tp-le-TOP_TO_10.false
    (passed _ _ _ _ _ c.if-tp-le-TOP_TO_20.false
    (passed _ _ _ _ _ c.if-tp-le-TOP_TO_50.false
    (passed _ _ _ _ _ c.if-tp-le-TOP_TO_100.false refl)))))
