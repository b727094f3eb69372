-- The tests 1 to 3 let a record through: a desk whose code and definitions refused alike would fail here.
use mathlib.Core.Path.{◌≡◌, refl}
use Rattle.wire.specs.Numbers.{number_at}
use Rattle.wire.specs.Tests.{in_range}
use Rattle.forms.specs.Heads.{pairs, is_length, known}
use Rattle.specimen.specs.Good.{good_case}
use Rattle.refusals.specs.Tests.{head_ok, zeros_ok, lists_ok, form_fault_of}

pub good_formed : form_fault_of good_case ≡ 0
unfolding form_fault_of head_ok zeros_ok lists_ok number_at in_range is_length known pairs
good_formed = refl
