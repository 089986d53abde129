use Rattle.blocking_pool.proofs.ReadyLemmas.{first_of_its_client}
use Rattle.blocking_pool.proofs.pool.ready.order_of_each_client.Goals as goal

pub returns : goal.returns
returns g c = first_of_its_client
