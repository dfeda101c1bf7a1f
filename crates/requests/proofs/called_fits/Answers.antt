-- `requests::called_fits` meets its contract. Assumes nothing.
use Rattle.requests.specs.FitLaws.{no_value, no_function_lem, too_many, called_fits_lem}
use Rattle.requests.proofs.called_fits.Goals as goal

pub returns-then-not-value_fits : goal.returns-then-not-value_fits
returns-then-not-value_fits c = search no_value

pub returns-then-not-is_function : goal.returns-then-not-is_function
returns-then-not-is_function c = search no_function_lem

pub returns-then-n-handlers-gt4096 : goal.returns-then-n-handlers-gt4096
returns-then-n-handlers-gt4096 c = search too_many

pub returns : goal.returns
returns c = search called_fits_lem
