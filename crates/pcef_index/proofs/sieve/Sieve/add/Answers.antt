use Rattle.pcef_index.proofs.sieve.Sieve.add.Goals as goal

pub returns-in-Offer-clause-lets : goal.returns-in-Offer-clause-lets
returns-in-Offer-clause-lets c offers ue h ranged fits = c.add_offer.ensures.lets ue h
