-- An answer cut in three: what refusal 5 asks of it, the frames that are left once word and handlers are put in and a tail call's own frame is gone, and what is done to them.
use Rattle.std.specs.Prelude.{List, ◌∷◌, Bool, ℕ, ◌+◌, length, leb}
use Rattle.cells.specs.declared.Cell.{Cell}
use Rattle.image.specs.Records.{both}
use Rattle.machine.specs.Values.{Program, is_effect, lucia_error, lucia_panic}
use Rattle.machine.specs.Machine.{Frame, Object, M, function_of, call_function, perform_effect, throw_error, return_value}
use Rattle.machine.specs.Calls.{is_value, are_values, are_effects, is_function, distinct, CallbackReturn, call_with, perform, tail_call, tail_perform, return_it, error_with, panic_with}

-- "a start or answered call of no Function": f and its arguments exist, of which there are, with so many handlers, at most 4,096
abbrev pub called_fits : Program → List Object → Cell → List Cell → ℕ → Bool
called_fits P s f args handlers = both (both (is_value P s f) (is_function (function_of s f))) (both (are_values P s args) (leb (length args + handlers) 4096))

-- "an answered perform .. of no Effect"
abbrev pub performed_fits : Program → List Object → Cell → List Cell → Bool
performed_fits P s e args = both (both (is_value P s e) (is_effect e)) (both (are_values P s args) (leb (length args + 0) 4096))

unfoldable pub return_fits : Program → List Object → CallbackReturn → Bool
return_fits P s (call_with f args handlers) = both (called_fits P s f args (length handlers)) (both (are_values P s handlers) (are_effects handlers))
return_fits P s (perform e args) = performed_fits P s e args
return_fits P s (tail_call f args) = called_fits P s f args 0
return_fits P s (tail_perform e args) = performed_fits P s e args
return_fits P s (return_it v) = is_value P s v
return_fits P s (error_with v) = is_value P s v
return_fits P s (panic_with v) = is_value P s v

-- the frames left of a host callback's frame with its new word, and of those below it
unfoldable pub frames_left : Program → (List Cell → Frame) → List Cell → List Frame → CallbackReturn → List Frame
frames_left P self hs below (call_with f args handlers) = self (distinct P (length handlers) handlers) ∷ below
frames_left P self hs below (perform e args) = self hs ∷ below
frames_left P self hs below (tail_call f args) = below
frames_left P self hs below (tail_perform e args) = below
frames_left P self hs below (return_it v) = below
frames_left P self hs below (error_with v) = self hs ∷ below
frames_left P self hs below (panic_with v) = self hs ∷ below

-- what is done, once the frames left are the machine's
unfoldable pub done_with : Program → CallbackReturn → M → M
done_with P (call_with f args handlers) m = call_function P (function_of m.store f) f args m
done_with P (perform e args) m = perform_effect P e args m
done_with P (tail_call f args) m = call_function P (function_of m.store f) f args m
done_with P (tail_perform e args) m = perform_effect P e args m
done_with P (return_it v) m = return_value v m.frames m
done_with P (error_with v) m = throw_error 1 P (lucia_error v) m
done_with P (panic_with v) m = throw_error 1 P (lucia_panic v) m
