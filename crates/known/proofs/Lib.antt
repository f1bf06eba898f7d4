-- Document 01's 'Plans with known sheets': the edges that concern reading, and the table P1 to P10. Behind them plans with offers and with labels, beside
-- them plans with known reach sheets and known word sheets.
mod Edges
mod Rows
mod KnownPlans
mod ReachedPlans
mod WordedPlans
