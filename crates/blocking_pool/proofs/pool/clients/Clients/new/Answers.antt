use Rattle.std.proofs.Common.{◌≡◌, ℕ, ◌∷◌, eqb, cond, List, [], Some, ap, ◌∙◌}
use Rattle.std.proofs.Common.{refl}
use Rattle.std.specs.Option.{unwrap_or}
use Rattle.std.specs.Map.{lookup}
use Rattle.blocking_pool.specs.ClientTable.{no_client}
use Rattle.blocking_pool.specs.declared.pool.clients.Client.{Client}
use Rattle.blocking_pool.proofs.Lists.{by_eq}
use Rattle.blocking_pool.proofs.ClientLemmas.{get_known}
use Rattle.blocking_pool.proofs.pool.clients.Clients.new.Goals as goal

pub returns : goal.returns
returns c client =
    ap (λ o. unwrap_or o no_client) (get_known ((0, no_client) ∷ c.new.result.entries) no_client
    client ∙ ap (λ (es : List (ℕ × Client)). cond (eqb client 0) (Some no_client)
    (lookup (eqb client) ((0, no_client) ∷ es))) c.new.ensures.empty)
    ∙ by_eq client 0 (λ b. unwrap_or (cond b (Some no_client) (cond b (Some no_client)
    (lookup {X = Client} (eqb client) []))) no_client ≡ no_client) (λ _. refl) (λ _. refl)
