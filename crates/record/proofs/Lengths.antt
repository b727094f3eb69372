-- How long the bytes of facts are.
use mathlib.Core.Path.{◌≡◌, refl}
use lib.ListN.{length}
use Rattle.forms.specs.Forms.{form_length}
use Rattle.forms.specs.Words.{Form, One, Two}
use Rattle.record.specs.Words.{Facts}
use Rattle.record.specs.Record.{bytes_as}

-- as many as their form has
pub long_as_form : (form : Form) (f : Facts) → length (bytes_as form f) ≡ form_length form
long_as_form One f = refl
long_as_form (Two d) f = refl
