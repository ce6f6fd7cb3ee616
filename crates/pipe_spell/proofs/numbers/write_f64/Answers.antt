use Rattle.std.proofs.Common.{◌≡◌, Some, ap, arith, option_map}
use Rattle.std.proofs.lemmas.Result.{on_ok_weaker}
use Rattle.json.proofs.Printed.Floats.{IsNumber-plus}
use Rattle.json.specs.Json as json
use Rattle.serde_json.specs.Data.{float, number}
use Rattle.serde_json.specs.Read.{number_of}
use Rattle.serde_json.proofs.Numbers.{number_of-plus}
use Rattle.serde_json.proofs.Texts.{unless_float-number_of}
use Rattle.pipe_spell.proofs.Fronts.{printable_push}
use Rattle.pipe_spell.proofs.numbers.write_f64.Goals as goal

pub returns-clause-ok : goal.returns-clause-ok
returns-clause-ok c =
    on_ok_weaker c.float_with_plus.result (λ w.
    let read : number_of w.0 ≡ Some (float c.args.x) = number_of-plus 16 4 w.0 c.args.x w.2 w.3 c.requires in
    (json.number w.0, w.1, ap (option_map number) read, omega arith, ap json.number (unless_float-number_of w.0 (float c.args.x) read))) c.float_with_plus.ensures.layout

pub returns-clause-printable : goal.returns-clause-printable
returns-clause-printable c = on_ok_weaker c.float_with_plus.result (λ w. printable_push _ _ _ (IsNumber-plus 16 4 w.0 w.2) w.1) c.float_with_plus.ensures.layout
