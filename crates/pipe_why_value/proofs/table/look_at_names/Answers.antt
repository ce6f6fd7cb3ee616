use Rattle.std.proofs.Common.{refl}
use Rattle.pipe_value.specs.View.{view}
use Rattle.pipe_why_text.specs.declared.want.Want.TheVariants as want
use Rattle.pipe_why_value.proofs.Looks.{looked_none, looked_twice, was_untold}
use Rattle.pipe_why_value.proofs.Names.{no_names}
use Rattle.pipe_why_value.proofs.table.look_at_names.Goals as goal

pub loop-i-init : goal.loop-i-init
loop-i-init c = record {
  looked = λ t good. looked_none (want.Columns, view c.args.columns.now, t) c.args.walk.now _ refl refl;
  names = no_names (view c.args.columns.now) c.new-names.result c.new-names.ensures.empty;
}

pub loop-i-preserved : goal.loop-i-preserved
loop-i-preserved c = record {
  looked = λ t good.
      let before = c.loop-i.invariant.looked t good in
      looked_twice (want.Columns, view c.args.columns.now, t) c.args.walk.now c.loop-i.walk _ before
      (c.in_ok-look_at_name.ensures.looked t (λ none. good (was_untold c.args.walk.now.first c.loop-i.walk.first before.kept none)));
  names = c.in_ok-look_at_name.ensures.names;
}
