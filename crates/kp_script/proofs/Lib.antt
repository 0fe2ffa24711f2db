mod EventTexts
mod LineTexts
