-- What is seen after each of a list of calls, for rows that the checker computes (specs/Rows.antt, and those that the oracle's `player rows` writes).
use Rattle.std.specs.Prelude.{List, [], ◌∷◌, Bool, ℕ, ◌+◌, ℤ, length, eqb}
use Rattle.std.proofs.Math.Bool.{xor}
use Rattle.cells.specs.Cells.{null}
use Rattle.cells.specs.Le.{le_at}
use Rattle.cells.specs.declared.Cell.{Cell}
use Rattle.utf8.specs.Utf8.{starts, char, octets}
use Rattle.fuel.specs.Fuels.{most, saturate}
use Rattle.fuel.specs.declared.Fuel.{Fuel}
use Rattle.ints.specs.Ints.{signed, wrap, quotient, divided, with_sign}
use Rattle.image.specs.Records.{if?, both, Answer, refused, accepted, whole, listed}
use Rattle.image.specs.Program.{tab, all, operand_kind, last_fine, counts_fine, code_fine, program_fine, capture_fine, constant_fine, effect_fine}
use Rattle.image.specs.Image.{parse, read_by, read_inner, inner_from, own, constants?, constants_from, constant, sized, refusal}
use Rattle.image.specs.Effects.{same, same_effect}
use Rattle.machine.specs.Values.{Program, equal_effects, effect_params, match_effect_handler, equal, thrown, shown, divides, unary, of_ints, binary}
use Rattle.machine.specs.Machine.{Handler, Frame, Object, Result, frame_cost, frames_cost, cost, used, result_cost, object_at, check_args, holds, effects, target_of, handlers_of, under, find, search, enter, capture, perform_by, throw_error, perform_effect, closure_function, continuation_function, function_of, parse as parse_arguments, give, put_back, resume, call_closure, call_function, receive, return_value}
use Rattle.machine.specs.Opcodes.{doing, with_top, with_two, computed, constant_value, load_const, load_global, operands_of, callable, call_taken, build_list, pop_jump, jump_or_pop, registered, register_handler, check_effect, opcode_action, closure_action, next_action}
use Rattle.machine.specs.Calls.{Sizes, top_handlers, handlers_left, judge, outcome, World, world, Given, Trace, steps_of, answer_of, given_of, fuel_after, world_after, turn_of, pace_of, charge, goes_on, no_ticks, tick, run, is_closure_at, is_list_at, is_continuation_at, is_constant, is_value, are_values, are_effects, is_function, fit, without, distinct, answer_action, answered, idle, request_action, request_world, line_of, of_page, given_by, end_of, fuel_of, asked, loaded_machine, loaded, load_of, program_of, load, Call, load_trace, call_of}

-- a global or builtin that is not null
pub record Named : Type 0 where
  pub name : ℕ
  pub value : Cell

-- What a call leaves: its answer, its steps, the fuel, what it gives, and the world, of whose globals and builtins those that are not null are named.
pub record Left : Type 0 where
  pub code : ℕ
  pub ticks : ℕ
  pub fuel : Fuel
  pub given : Given
  pub frames : List Frame
  pub result : Result
  pub store : List Object
  pub globals : List Named
  pub builtins : List Named
  pub wait : Bool
  pub slice : ℕ

abbrev pub named : ℕ → Cell → Named
named n v = record { name = n; value = v }

abbrev pub handler : Cell → ℕ → ℕ → Handler
handler e t n = record { effect = e; target = t; stack_size = n }

abbrev pub fuel_with : ℤ → Bool → Fuel
fuel_with n b = record { fuel = n; interrupted = b }

abbrev pub sizes : ℕ → ℕ → Sizes
sizes l s = record { live = l; store = s }

abbrev pub leaves : ℕ → ℕ → Fuel → Given → List Frame → Result → List Object → List Named → List Named → Bool → ℕ → Left
leaves n t f g F r s gs bs b left = record { code = n; ticks = t; fuel = f; given = g; frames = F; result = r; store = s; globals = gs; builtins = bs; wait = b; slice = left }

abbrev names_from : ℕ → List Cell → List Named
names_from n [] = []
names_from n (v ∷ vs) = let rest = names_from (n + 1) vs in if? (eqb (v.tag + v.number + v.payload) 0) rest (named n v ∷ rest)

-- the value of this name: null if it is not among them
abbrev value_of : List Named → ℕ → Cell
value_of [] n = null
value_of (x ∷ xs) n = if? (eqb x.name n) x.value (value_of xs n)

abbrev left_by : Trace → Left
left_by t =
    let w = world_after t in
    let m = w.machine in
    leaves (answer_of t) (length (steps_of t)) (fuel_after t) (given_of t) m.frames m.result m.store (names_from 0 m.globals) (names_from 0 m.builtins) w.wait w.slice

-- the world that was left, for the calls after it
abbrev pub world_of : Left → World
world_of l =
    world (record { frames = l.frames; store = l.store; globals = tab 256 (value_of l.globals); builtins = tab 256 (value_of l.builtins); result = l.result })
    l.wait l.slice

-- what each of the calls leaves
abbrev pub seen : Program → Sizes → List Call → World → List Left
seen P z [] w = []
seen P z (c ∷ cs) w = let t = call_of P z c w in left_by t ∷ seen P z cs (world_after t)

-- the same of a load and the calls after it
abbrev pub seen_by : Sizes → List Call → Answer Program → Answer (List Left)
seen_by z cs (refused n) = refused n
seen_by z cs (accepted P) = let t = load_trace (loaded P) (accepted P) in accepted (left_by t ∷ seen P z cs (world_after t))

abbrev pub sees : List ℕ → Sizes → List Call → Answer (List Left)
sees image z cs = seen_by z cs (load image z)

-- To unfold this is to unfold every rule.
unfoldable pub every_rule : Unit {0}
unfolding le_at starts char octets most saturate signed wrap quotient divided with_sign xor both whole listed tab all operand_kind last_fine counts_fine code_fine program_fine capture_fine constant_fine effect_fine parse read_by read_inner inner_from own constants? constants_from constant sized refusal same same_effect equal_effects effect_params match_effect_handler equal thrown shown divides unary of_ints binary frame_cost frames_cost cost used result_cost object_at check_args parse_arguments holds effects target_of handlers_of under find search enter capture perform_by throw_error perform_effect closure_function continuation_function function_of give put_back resume call_closure call_function receive return_value doing with_top with_two computed constant_value load_const load_global operands_of callable call_taken build_list pop_jump jump_or_pop registered register_handler check_effect opcode_action closure_action next_action top_handlers handlers_left judge outcome steps_of answer_of given_of fuel_after world_after turn_of pace_of charge goes_on no_ticks tick run is_closure_at is_list_at is_continuation_at is_constant is_value are_values are_effects is_function fit without distinct answer_action answered idle request_action request_world line_of of_page given_by end_of fuel_of asked loaded_machine load_of program_of load_trace call_of
every_rule = tt
