-- What the calls that read give, by the cells of the state block, the image and the page.
use Rattle.std.specs.Prelude.{List, Bool, true, Option, Some, None, Result, Ok, Err, ℕ, ◌+◌, ◌-◌, get_or, eqb, ltb}
use Rattle.cells.specs.Cells.{null, cells}
use Rattle.cells.specs.declared.Cell.{Cell}
use Rattle.image.specs.Records.{if?, both, Answer, refused, accepted}
use Rattle.image.specs.Program.{part}
use Rattle.machine.specs.Values.{Program}
use Rattle.machine.specs.Calls.{Given, nothing, of_image, line_of, of_page, Line, line, missing}
use Rattle.refusals.specs.Refusals.{number}
use Rattle.refusals.specs.declared.Refusal.{Refusal}
use Rattle.form.specs.Entry.{Entered}
use Rattle.asks.specs.Asks.{part_of}
use Rattle.asks.specs.Entries.{exists}
use Rattle.asks.specs.declared.Part.{Part}
use Rattle.asks.specs.declared.Place.{Place}
use Rattle.readings.specs.declared.Spot.{Spot}
use Rattle.readings.specs.declared.Spot.TheVariants.{Image, Page}

-- the byte LF, which ends a line
abbrev pub is_feed : ℕ → Bool
is_feed x = eqb x 10

-- a line of the page
abbrev pub found_of : Line → Option Place
found_of (line at n) = Some (record { start = at; size = n })
found_of missing = None

-- what a call gives: a part of the image, or of the page
abbrev pub given_at : Spot → Given
given_at (Image p) = record { value = null; from = 0; start = p.start; size = p.size }
given_at (Page p) = record { value = null; from = 1; start = p.start; size = p.size }

-- the part of the image that a value names; another value is refused
abbrev pub image_given : Option Place → Answer Given
image_given (Some p) = accepted (given_at (Image p))
image_given None = refused 5

abbrev pub spotted : Result Spot Refusal → Answer Given
spotted (Ok s) = accepted (given_at s)
spotted (Err x) = refused (number x)

abbrev pub part_said : Answer Given → Part
part_said (refused n) = part_of n nothing
part_said (accepted g) = part_of 0 g

-- what an answer names: a part of the image, or of the page
abbrev pub chosen : List ℕ → List ℕ → Part → List ℕ
chosen image page at = if? (eqb at.from 0) (part image at.start at.len) (part page at.start at.len)

-- globals begin at cell 4 of the state block, builtins at 260
unfoldable pub reading : ℕ → ℕ → List ℕ → Answer Entered → Answer Cell
reading first number state (refused n) = refused n
reading first number state (accepted e) = if? (ltb number 256) (accepted (get_or (cells state) (first + number) null)) (refused 5)

-- where the text of a Str and the bytes of a Bytes stand
unfoldable pub text_given : Program → List ℕ → Cell → Given
text_given P page v = if? (eqb v.tag 4) (of_image P v) (of_page page (line_of (v.number - 1) 0 0 page))

unfoldable pub texting : List ℕ → Cell → List ℕ → List ℕ → Answer Entered → Answer Given
texting page v state store (refused n) = refused n
texting page v state store (accepted e) =
    if? (both (exists e state store v) (if? (eqb v.tag 4) true (eqb v.tag 20))) (accepted (text_given e.program page v)) (refused 5)

unfoldable pub byting : Cell → List ℕ → List ℕ → Answer Entered → Answer Given
byting v state store (refused n) = refused n
byting v state store (accepted e) = if? (both (exists e state store v) (eqb v.tag 5)) (accepted (of_image e.program v)) (refused 5)
