-- `batch::find` meets its contract: each step asks what those before it leave; what the plan asks for is held.
use native.Mathlib.Omega.{arith}
use mathlib.Core.Path.{ap, ◌∙◌}
use lib.ListN.{length}
use Rattle.octets.proofs.MapLaws.{length_map}
use Rattle.batch.proofs.AnswerLaws.{map_again}
use Rattle.batch.proofs.Telling.{planned_held}
use Rattle.batch.proofs.find.Goals as goal

pub plan-todo-requires : goal.plan-todo-requires
plan-todo-requires c =
    record {
      held_map = map_again _ _ c.fill_held.ensures;
      slots = c.requires.usable.slots;
      cache_size = omega (arith, c.requires.usable.whole, c.requires.usable.most_slots);
      sound = c.requires.sound;
    }

pub search_all-read-requires : goal.search_all-read-requires
search_all-read-requires c = (
  record {
    blocks = record { sound = c.requires.usable.blocks };
    most = c.requires.usable.most;
    sizes = λ t l. ap length (c.plan-todo.ensures.each t l) ∙ length_map _;
    holds = planned_held c.args.catalog.now c.args.motifs.now.blocks.now _ _ _ c.fill_held.ensures c.plan-todo.ensures;
  },
  c.requires.work_of,
)
